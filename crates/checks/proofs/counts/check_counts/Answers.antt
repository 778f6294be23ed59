-- The actions' counts are wrong only where there is an action: without one the header has no outcomes.
use Rattle.std.proofs.Common.{◌≡◌, ℕ, ◌≤◌, List, ap, arith, rules}
use native.Mathlib.Decide.{dec_le}
use Rattle.rcm.specs.declared.records.Head.{Head}
use Rattle.rcm.specs.Format.{version_1}
use Rattle.rcm.specs.Layout.{outcome_count, actions, outcomes, sum_below}
use Rattle.rcm.specs.Checking.{WellFramed}
use Rattle.rcm.specs.Laws.Sums.{sum_zero}
use Rattle.checks.specs.Laws.Sound.{passed_framed}
use Rattle.checks.proofs.counts.check_counts.Goals as goal

some_action : (b : List ℕ) → WellFramed version_1 b → (sum_below (outcome_count version_1 b) (actions b) ≡ outcomes b → ⊥) → 1 ≤ actions b
some_action b framed wrong =
    elim (dec_le 1 (actions b)) [
      | yes h ↦ h
      | no h ↦
          let none : actions b ≡ 0 = omega arith in
          absurd (omega (arith, wrong, sum_zero (outcome_count version_1 b) (actions b) none, framed.outcomes_none none))
    ]

pub overflow_sub-last-then-of_actions-from : goal.overflow_sub-last-then-of_actions-from
overflow_sub-last-then-of_actions-from c =
    let heads = ap (λ (h : Head). h.outcomes) c.head-head.ensures in
    omega (arith, some_action _ (passed_framed version_1 _ c.args.file.now.passed) (omega (arith, heads)), ap (λ (h : Head). h.actions) c.head-head.ensures)

pub returns-then-of_actions-from : goal.returns-then-of_actions-from
returns-then-of_actions-from c =
    let heads = ap (λ (h : Head). h.outcomes) c.head-head.ensures in
    let some : 1 ≤ actions c.args.file.now.bytes.now = some_action _ (passed_framed version_1 _ c.args.file.now.passed) (omega (arith, heads)) in
    search rules
