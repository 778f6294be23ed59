-- The checks of records and rules pass where their rules hold.
use Rattle.std.proofs.Common.{ℕ, List}
use Rattle.faults.specs.declared.Cause.TheVariants.{StateField, ActionField, OutcomeField, Weights, Consistency}
use Rattle.rcm.specs.Format.{Format}
use Rattle.rcm.specs.Layout.{states, actions, outcomes, state_byte, action_byte, outcome_byte}
use Rattle.rcm.specs.Checks.{StatesRule, state_offset, ActionsRule, action_offset, OutcomesRule, outcome_offset, WeightsRule, ConsistencyRule, whole_offset}
use Rattle.rcm.specs.Checking.{Passed, Holds}
use Rattle.rcm.proofs.Order.{passed_more}
use Rattle.checks.proofs.Sections.{holds_clear}

module _ (F : Format) (b : List ℕ) where
  pub after_states : Passed F b 5 → Holds (states b) (StatesRule F b) → Passed F b 6
  after_states passed holds = passed_more F b StateField passed (holds_clear (states b) (state_byte F) state_offset (StatesRule F b) holds)

  pub after_actions : Passed F b 6 → Holds (actions b) (ActionsRule F b) → Passed F b 7
  after_actions passed holds = passed_more F b ActionField passed (holds_clear (actions b) (action_byte F b) action_offset (ActionsRule F b) holds)

  pub after_outcomes : Passed F b 7 → Holds (outcomes b) (OutcomesRule F b) → Passed F b 8
  after_outcomes passed holds = passed_more F b OutcomeField passed (holds_clear (outcomes b) (outcome_byte F b) outcome_offset (OutcomesRule F b) holds)

  -- the sections one after another
  pub after_two : Passed F b 5 → Holds (states b) (StatesRule F b) → Holds (actions b) (ActionsRule F b) → Passed F b 7
  after_two passed s a = after_actions (after_states passed s) a

  pub after_three : Passed F b 5 → Holds (states b) (StatesRule F b) → Holds (actions b) (ActionsRule F b) → Holds (outcomes b) (OutcomesRule F b) → Passed F b 8
  after_three passed s a o = after_outcomes (after_two passed s a) o

  pub after_weights : Passed F b 9 → Holds (actions b) (WeightsRule F b) → Passed F b 10
  after_weights passed holds = passed_more F b Weights passed (holds_clear (actions b) (action_byte F b) whole_offset (WeightsRule F b) holds)

  pub after_consistency : Passed F b 10 → Holds (actions b) (ConsistencyRule F b) → Passed F b 11
  after_consistency passed holds = passed_more F b Consistency passed (holds_clear (actions b) (action_byte F b) whole_offset (ConsistencyRule F b) holds)
