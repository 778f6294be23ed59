-- Enough work finishes the plan: every step raises a sum over the states, which has a cap. Assumes nothing.
use Rattle.std.proofs.Common.{◌≡◌, ℕ, ◌+◌, ◌*◌, ◌<◌, ◌≤◌, Bool, true, false, cond, ◌⊎◌, List, refl, inl, inr, ⊎_elim, le_trans, arith}
use Rattle.std.proofs.lemmas.Bool.{cases_lt, cond_both}
use Rattle.process.specs.Process.{Process, InOrder}
use Rattle.process.specs.Valuation.{Valuation}
use Rattle.planning.specs.declared.Call.{Call}
use Rattle.planning.specs.Steps.{Bounds, Planned, Expansion, LowerBackup, UpperBackup, Finished, Run, none, then_expand, then_raise_lower, then_raise_upper, Reached, begun, worked, told, advised, granted}
use Rattle.planning.specs.Promises.{EnoughWorkFinishes}
use Rattle.planning.proofs.Basics.{backup_le_price, upper_backup_le_price, planned_known, settled_expands_none, settled_raises_none, finished_raises_none}
use Rattle.planning.proofs.Sums.{sum_below, sum_grows, sum_full}
use Rattle.planning.proofs.Reaching.{run_keeps}
use Rattle.planning.proofs.Capped.{Capped, reached_capped}

-- what each step raises: 1 where the state is expanded, and its two figures
abbrev height : Bounds → ℕ → ℕ
height x s = cond (x.expanded s) 1 0 + x.lower s + x.upper s

abbrev potential : Process → Bounds → ℕ
potential p x = sum_below (height x) p.states

mark_le_one : (b : Bool) → cond b 1 0 ≤ 1
mark_le_one b = cond_both b 1 0 (λ n. n ≤ 1) (λ _. omega arith) (λ _. omega arith)

marked : (b : Bool) → 1 ≤ cond b 1 0 → b ≡ true
marked true h = refl
marked false h = absurd (omega arith)

height_capped : (p : Process) (x : Bounds) → Capped p x → (s : ℕ) → s < p.states → height x s ≤ 2 * p.price + 1
height_capped p x capped s h = omega (arith, capped.lower s h, capped.upper s, mark_le_one (x.expanded s))

module _ (V W : Valuation) (p : Process) (ok : InOrder p) where
  raised_at : (x y : Bounds) {s : ℕ} → Planned V p x s → height x s < height y s → ((r : ℕ) → (r ≡ s → ⊥) → height x r ≤ height y r) → potential p x < potential p y
  raised_at x y {s} planned grown others = sum_grows (height x) (height y) p.states s (planned_known V p ok _ _ s planned) grown (λ r other _. others r other)

  expansion_raises : {x y : Bounds} {s : ℕ} → Expansion V p x y s → potential p x < potential p y
  expansion_raises {x} {y} {s} step = raised_at x y step.can.planned
      (rw (step.can.unexpanded, step.expanded.here) (omega (arith, step.same_lower s, step.same_upper s)))
      (λ r other. rw (step.expanded.others r other) (omega (arith, step.same_lower r, step.same_upper r)))

  lower_backup_raises : {x y : Bounds} {s : ℕ} → LowerBackup V p x y s → potential p x < potential p y
  lower_backup_raises {x} {y} {s} step = raised_at x y step.can.planned
      (rw step.same_expanded (omega (arith, step.same_upper s)))
      (λ r other. rw step.same_expanded (omega (arith, step.lower.others r other, step.same_upper r)))

  upper_backup_raises : {x y : Bounds} {s : ℕ} → UpperBackup V W p x y s → potential p x < potential p y
  upper_backup_raises {x} {y} {s} step = raised_at x y step.can.planned
      (rw step.same_expanded (omega (arith, step.same_lower s)))
      (λ r other. rw step.same_expanded (omega (arith, step.upper.others r other, step.same_lower r)))

  -- each step of a run counts
  run_raises : {x y : Bounds} {e b : ℕ} → Run V W p x y e b → potential p x + (e + b) ≤ potential p y
  run_raises none = omega arith
  run_raises (then_expand s run step) = omega (arith, run_raises run, expansion_raises step)
  run_raises (then_raise_lower s run step) = omega (arith, run_raises run, lower_backup_raises step)
  run_raises (then_raise_upper s run step) = omega (arith, run_raises run, upper_backup_raises step)

  -- a finished plan has no step left, so a run from it makes none
  pub finished_stays : {x y : Bounds} {e b : ℕ} → Finished V W p x → Run V W p x y e b → Finished V W p y
  finished_stays = run_keeps V W p (Finished V W p) (record {
    by_expansion = λ x y s done step. absurd (settled_expands_none done.settled step.can);
    by_lower = λ x y s done step. absurd (settled_raises_none done.settled step.can);
    by_upper = λ x y s done step. absurd (finished_raises_none done step.can);
  })

  finished_or_raised : {cs : List Call} {x : Bounds} → Reached V W p cs x → Finished V W p x ⊎ (granted cs ≤ potential p x)
  finished_or_raised (begun first) = inr (omega arith)
  finished_or_raised (told before) = finished_or_raised before
  finished_or_raised (advised s before) = finished_or_raised before
  finished_or_raised (worked budget e b before now) = elim (cases_lt (e + b) budget) [
    | inl fewer ↦ inl (now.stopped fewer)
    | inr all ↦ ⊎_elim (λ done. inl (finished_stays done now.run)) (λ raised. inr (omega (arith, run_raises now.run))) (finished_or_raised before)
  ]

  -- with the potential at its cap, no step is left
  full_finished : {x : Bounds} → Capped p x → p.states * (2 * p.price + 1) ≤ potential p x → Finished V W p x
  full_finished {x} capped full = record {
    settled = record {
      expanded = λ s planned _. marked (x.expanded s) (top planned).0;
      backed_up = λ s planned _. le_trans (backup_le_price V p x.lower s) (top planned).1;
    };
    backed_up = λ s planned _. le_trans (upper_backup_le_price V W p x.lower x.upper s) (top planned).2;
  }
    where
      top : {s : ℕ} → Planned V p x s → (1 ≤ cond (x.expanded s) 1 0) × (p.price ≤ x.lower s) × (p.price ≤ x.upper s)
      top {s} planned =
          let known : s < p.states = planned_known V p ok _ _ s planned in
          omega (arith, capped.lower s known, capped.upper s, mark_le_one (x.expanded s), sum_full (height x) (2 * p.price + 1) p.states (height_capped p x capped) full s known)

  pub enough_work_finishes : {cs : List Call} {x : Bounds} → Reached V W p cs x → EnoughWorkFinishes V W p cs x
  enough_work_finishes reached enough = ⊎_elim (λ done. done) (λ raised. full_finished (reached_capped V W p ok reached) (omega arith)) (finished_or_raised reached)
