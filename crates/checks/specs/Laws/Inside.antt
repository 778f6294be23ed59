-- The actions of a state and the outcomes of an action stand within their sections.
use Rattle.std.specs.Prelude.{ℕ, ◌+◌, ◌<◌, ◌≤◌, List}
use Rattle.std.proofs.Common.{arith}
use Rattle.rcm.specs.Format.{Format}
use Rattle.rcm.specs.Layout.{states, actions, outcomes, state_record, action_record, action_count, outcome_count}
use Rattle.rcm.specs.Checks.{FirstAction, FirstOutcome}
use Rattle.rcm.specs.Laws.Sums.{sum_within}
use Rattle.checks.specs.Filling.{Filled}

module _ (F : Format) (b : List ℕ) (filled : Filled F b) where
  pub actions_inside : (s : ℕ) → s < states b → (state_record F b s).first + (state_record F b s).count ≤ actions b
  actions_inside s h =
      omega (arith, filled.states_hold s h FirstAction, filled.actions_counted, sum_within (action_count F b) s (states b) h)

  pub outcomes_inside : (a : ℕ) → a < actions b → (action_record F b a).first + (action_record F b a).count ≤ outcomes b
  outcomes_inside a h =
      omega (arith, filled.actions_hold a h FirstOutcome, filled.outcomes_counted, sum_within (outcome_count F b) a (actions b) h)
