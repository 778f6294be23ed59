-- The one invariant of the search: lower figures are raised from the estimates, and upper figures from zero once the bounds are settled. Assumes nothing.
use Rattle.std.proofs.Common.{◌≡◌, ℕ, ◌⊎◌, List, sym, subst, inl, inr, ⊎_elim, arith}
use mathlib.Core.Path.{fun_ext}
use Rattle.process.specs.Process.{Process}
use Rattle.process.specs.Valuation.{Valuation}
use Rattle.planning.specs.declared.Call.{Call}
use Rattle.planning.specs.Steps.{Bounds, Settled, Alike, Reached}
use Rattle.planning.proofs.Basics.{settled_expands_none, settled_raises_none}
use Rattle.planning.proofs.Raising.{RaisedLower, RaisedUpper, begin, raise, raised_same}
use Rattle.planning.proofs.Reaching.{Invariant, reached_keeps}

pub record RaisedBounds (V W : Valuation) (p : Process) (x : Bounds) : Type 0 where
  pub lower : RaisedLower V p x.lower
  pub upper : RaisedUpper V W p x.lower x.upper
  pub late : Settled V p x ⊎ ((s : ℕ) → x.upper s ≡ 0)

module _ (V W : Valuation) (p : Process) where
  raised_at_zero : (x : Bounds) → RaisedLower V p x.lower → ((s : ℕ) → x.upper s ≡ 0) → RaisedBounds V W p x
  raised_at_zero x made zeros = record { lower = made; upper = begin zeros; late = inr zeros }

  -- a step that settled bounds do not have leaves the upper figures at zero
  raised_unsettled : (x y : Bounds) → RaisedBounds V W p x → (Settled V p x → ⊥) → RaisedLower V p y.lower → Alike x.upper y.upper → RaisedBounds V W p y
  raised_unsettled x y made never lower same = raised_at_zero y lower (λ s. ⊎_elim (λ settled. absurd (never settled)) (λ zeros. omega (arith, same s, zeros s)) made.late)

  raised_kept : Invariant V W p (RaisedBounds V W p)
  raised_kept =
      record {
        by_expansion = λ x y s made step.
            raised_unsettled x y made (λ settled. settled_expands_none settled step.can)
            (raised_same step.same_lower made.lower) step.same_upper;
        by_lower = λ x y s made step.
            raised_unsettled x y made (λ settled. settled_raises_none settled step.can)
            (raise s made.lower step.can.nonterminal step.can.raises step.lower) step.same_upper;
        by_upper = λ x y s made step.
            subst (RaisedBounds V W p) (λ i. record { expanded = sym (fun_ext step.same_expanded) i; lower = sym (fun_ext step.same_lower) i; upper = y.upper })
            (record {
              lower = made.lower;
              upper = raise s made.upper step.can.nonterminal step.can.raises step.upper;
              late = inl (record { expanded = step.can.settled.expanded; backed_up = step.can.settled.backed_up });
            });
      }

  pub reached_raised : {cs : List Call} {x : Bounds} → Reached V W p cs x → RaisedBounds V W p x
  reached_raised = reached_keeps V W p (RaisedBounds V W p) raised_kept (λ x start. raised_at_zero x (begin start.lower) start.upper)
