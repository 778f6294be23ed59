-- Settled bounds plan what any least lower table plans: the same figures, best actions and states. Assumes nothing.
use Rattle.std.proofs.Common.{◌≡◌, ℕ, ◌<◌, ◌≤◌, Bool, true, false, ◌↔◌, length, sym, refl, inl, inr, le_trans, le_antisymm, arith}
use Rattle.std.proofs.lemmas.Bool.{cases_lt, lt-ltb, le-ltb}
use Rattle.process.specs.Process.{Process, InOrder}
use Rattle.process.specs.Valuation.{Valuation, Monotone}
use Rattle.planning.specs.declared.Advice.{Advice}
use Rattle.planning.specs.Plan.{backup, best, Worth, upper_backup, InPlan, at_start, onward, Advised, at_terminal, outside, not_worth, at_price, by_best}
use Rattle.planning.specs.Steps.{Bounds, Planned, Settled}
use Rattle.planning.specs.Answer.{LeastLowerTable, InWholePlan}
use Rattle.planning.proofs.Basics.{backup_le_value, backup_mono, value_mono, best_within, best_value, best_first, best_is, planned_known}
use Rattle.planning.proofs.Raising.{RaisedLower, raised_above, raised_below}
use Rattle.planning.proofs.WithinPlan.{best_mono, backup_below}
use Rattle.planning.proofs.LeastTable.{lower_below_table, least_lower_table}

-- two figures give a state the same backup and the same best action
pub record Agree (V : Valuation) (p : Process) (f g : ℕ → ℕ) (s : ℕ) : Type 0 where
  pub backups : backup V p f s ≡ backup V p g s
  pub bests : Worth V p f s → best V p f s ≡ best V p g s

agree_sym : (V : Valuation) (p : Process) (f g : ℕ → ℕ) (s : ℕ) → Agree V p f g s → Agree V p g f s
agree_sym V p f g s agree = record { backups = sym agree.backups; bests = λ worth. sym (agree.bests (omega (arith, agree.backups))) }

pub upper_backup_same : (V W : Valuation) (p : Process) (f g u : ℕ → ℕ) (s : ℕ) → Agree V p f g s → upper_backup V W p f u s ≡ upper_backup V W p g u s
upper_backup_same V W p f g u s agree = rw (← agree.backups) (elim (cases_lt (backup V p f s) p.price) [
  | inl worth ↦ rw (lt-ltb _ _ worth, agree.bests worth)
  | inr high ↦ rw (le-ltb _ _ high)
])

-- plans by figures that agree at the states of both lead to the same states
module _ (V : Valuation) (p : Process) (e d : ℕ → Bool) (f g : ℕ → ℕ) (agree : (s : ℕ) → InPlan V p e f s → InPlan V p d g s → p.terminal s ≡ false → (d s ≡ true) × Agree V p f g s) where
  replan : {s : ℕ} → InPlan V p e f s → InPlan V p d g s
  replan at_start = at_start
  replan (onward t k planned live _ worth within) =
      let there = replan planned in
      let same = agree t planned there live in
      rw (same.1.bests worth) (onward t k there live same.0 (omega (arith, same.1.backups)) (rw (same.1.bests worth) at within))

-- and give the same advice, where the upper figures are the same too
module _ (V : Valuation) (p : Process) (e d : ℕ → Bool) (f g u v : ℕ → ℕ) (s : ℕ) (plans : InPlan V p e f s ↔ InPlan V p d g s) (agree : InPlan V p e f s → p.terminal s ≡ false → Agree V p f g s) (level : InPlan V p e f s → u s ≡ v s) where
  readvise : {c : Advice} → Advised V p e f u s c → Advised V p d g v s c
  readvise (at_terminal end) = at_terminal end
  readvise (outside live out) = outside live (λ planned. out (plans.1 planned))
  readvise (not_worth live planned high) = not_worth live (plans.0 planned) (omega (arith, (agree planned live).backups))
  readvise (at_price live planned high) = at_price live (plans.0 planned) (omega (arith, level planned))
  readvise (by_best live planned worth low) = rw ((agree planned live).bests worth) (by_best live (plans.0 planned) (omega (arith, (agree planned live).backups)) (rw (level planned) at low))

pub record SamePlan (V : Valuation) (p : Process) (x : Bounds) (t : ℕ → ℕ) : Type 0 where
  pub figure : (s : ℕ) → Planned V p x s → x.lower s ≡ t s
  pub agree : (s : ℕ) → Planned V p x s → p.terminal s ≡ false → Agree V p x.lower t s
  pub plan : (s : ℕ) → Planned V p x s ↔ InWholePlan V p t s

module _ (V : Valuation) (mono : Monotone V) (p : Process) (ok : InOrder p) (x : Bounds) (settled : Settled V p x) (made : RaisedLower V p x.lower) (t : ℕ → ℕ) (least : LeastLowerTable V p t) where
  below_table : (s : ℕ) → s < p.states → x.lower s ≤ t s
  below_table = lower_below_table V mono p ok made t least.table

  backup_below_lower : (g : ℕ → ℕ) → ((r : ℕ) → Planned V p x r → g r ≤ x.lower r) → (s : ℕ) → Planned V p x s → p.terminal s ≡ false → backup V p g s ≤ backup V p x.lower s
  backup_below_lower = backup_below V p x.expanded x.lower settled.expanded mono

  above_raised : {u : ℕ → ℕ} → RaisedLower V p u → (s : ℕ) → Planned V p x s → u s ≤ x.lower s
  above_raised =
      raised_below (Planned V p x) x.lower (λ s _. raised_above made s)
      (λ g below s planned live. le_trans (backup_below_lower g below s planned live) (settled.backed_up s planned live))

  -- by way of the least table that is raised
  above_table : (s : ℕ) → Planned V p x s → t s ≤ x.lower s
  above_table s planned =
      let other = least_lower_table V mono p ok in
      le_trans (least.smallest other.0 other.2.table s (planned_known V p ok _ _ s planned)) (above_raised other.1 s planned)

  module _ (s : ℕ) (planned : Planned V p x s) (live : p.terminal s ≡ false) where
    -- no action has a smaller value over the table than over the lower figures, and the best action has the same
    table_best : Worth V p x.lower s → best V p t s ≡ best V p x.lower s
    table_best worth =
        let within = best_within V p x.lower s worth in
        let same = best_mono V p x.expanded x.lower settled.expanded t x.lower above_table s planned live V mono worth in
        let more = value_mono V mono p ok x.lower t below_table s (planned_known V p ok _ _ s planned) live in
        best_is V p t s (best V p x.lower s) within
        (λ b h. omega (arith, best_value V p x.lower s worth, backup_le_value V p x.lower s b h, more b h))
        (λ b earlier. let h : b < length (p.actions s) = omega arith in omega (arith, best_first V p x.lower s b earlier h, more b h))

    agree_over_table : Agree V p x.lower t s
    agree_over_table =
        record {
          backups = le_antisymm (backup_mono V mono p ok x.lower t below_table s (planned_known V p ok _ _ s planned) live) (backup_below_lower t above_table s planned live);
          bests = λ worth. sym (table_best worth);
        }

  pub same_plan : SamePlan V p x t
  same_plan =
      record {
        figure = λ s planned. le_antisymm (below_table s (planned_known V p ok _ _ s planned)) (above_table s planned);
        agree = agree_over_table;
        plan = λ s. (
          replan V p x.expanded (λ _. true) x.lower t (λ r planned _ live. (refl, agree_over_table r planned live)),
          replan V p (λ _. true) x.expanded t x.lower (λ r _ planned live. (settled.expanded r planned live, agree_sym V p x.lower t r (agree_over_table r planned live))),
        );
      }

module _ (V : Valuation) (p : Process) (x : Bounds) (t u : ℕ → ℕ) (same : SamePlan V p x t) (level : (s : ℕ) → Planned V p x s → x.upper s ≡ u s) where
  pub same_advice : (s : ℕ) (c : Advice) → Advised V p x.expanded x.lower x.upper s c ↔ Advised V p (λ _. true) t u s c
  same_advice s c = (
    readvise V p _ _ x.lower t x.upper u s (same.plan s) (same.agree s) (level s),
    readvise V p _ _ t x.lower u x.upper s ((same.plan s).1, (same.plan s).0)
        (λ planned live. agree_sym V p x.lower t s (same.agree s ((same.plan s).1 planned) live)) (λ planned. sym (level s ((same.plan s).1 planned))),
  )
