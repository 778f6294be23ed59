-- The records of a file fill its sections.
use Rattle.std.specs.Prelude.{◌≡◌, ℕ, ◌<◌, List}
use Rattle.rcm.specs.Format.{Format}
use Rattle.rcm.specs.Layout.{states, actions, outcomes, action_byte, state_record, action_count, outcome_count, sum_below}
use Rattle.rcm.specs.Checks.{StatesRule, ActionsRule, OutcomesRule, Has, Consistent}
use Rattle.rcm.specs.Checking.{Holds, WellFramed}

-- the fields keep their rules, and the counts add up
pub record Filled (F : Format) (b : List ℕ) : Type 0 where
  pub framed : WellFramed F b
  pub states_hold : Holds (states b) (StatesRule F b)
  pub actions_hold : Holds (actions b) (ActionsRule F b)
  pub outcomes_hold : Holds (outcomes b) (OutcomesRule F b)
  pub actions_counted : sum_below (action_count F b) (states b) ≡ actions b
  pub outcomes_counted : sum_below (outcome_count F b) (actions b) ≡ outcomes b

-- the first action of `s` that its estimate is too high for
pub record FirstInconsistent (F : Format) (b : List ℕ) (s a k : ℕ) : Type 0 where
  pub has : Has (state_record F b s) a
  pub here : k ≡ action_byte F b a
  pub broken : Consistent F b s a → ⊥
  pub before : (a' : ℕ) → Has (state_record F b s) a' → a' < a → Consistent F b s a'
