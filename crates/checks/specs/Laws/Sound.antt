-- Where no check fails, every rule holds.
use Rattle.std.specs.Prelude.{◌≡◌, ℕ, ◌+◌, ◌-◌, List, refl}
use Rattle.std.proofs.Common.{inl, inr, arith, lit<}
use Rattle.std.proofs.Math.Decide.{dec_le}
use Rattle.faults.specs.declared.Cause.TheVariants.{Header, Sections, StateField, ActionField, OutcomeField, Counts, Weights, Consistency}
use Rattle.rcm.specs.Format.{Format}
use Rattle.rcm.specs.Layout.{head_of, states, actions, outcomes, state_byte, action_byte, outcome_byte, outcome_count}
use Rattle.rcm.specs.Checks.{Clear, Sound, HeaderRule, header_offset, SectionsRule, StatesRule, state_offset, ActionsRule, action_offset, OutcomesRule, outcome_offset, WeightsRule, ConsistencyRule, whole, whole_offset, States, Start, Actions, Outcomes, Price, Kind, Estimate, FirstAction, ActionCount, Cost, FirstOutcome, OutcomeCount, Target, Weight}
use Rattle.rcm.specs.Checking.{Holds, Passed, WellFramed}
use Rattle.rcm.specs.Laws.Sums.{sum_zero}
use Rattle.rcm.specs.Laws.Rules.{stable_le, stable_within, stable_eq, clear_holds, framed_by}
use Rattle.checks.specs.Filling.{Filled}

module _ (F : Format) (b : List ℕ) where
  clear_framed : Clear F b Header → Clear F b Sections → WellFramed F b
  clear_framed header sections = framed_by F b
      (clear_holds 1 (λ _. 0) header_offset (λ _. HeaderRule F (head_of b))
      (λ r. elim [ States ↦ stable_within _ _ _ | Start ↦ stable_le _ _ | Actions ↦ stable_le _ _ | Outcomes ↦ stable_le _ _ | Price ↦ stable_within _ _ _ ])
      header 0 (omega arith))
      (clear_holds 1 (λ _. 0) whole_offset (λ _. SectionsRule F b) (λ r p. stable_eq _ _) sections 0 (omega arith) whole)

  -- a file whose frame was checked has a frame in order
  pub passed_framed : Passed F b 5 → WellFramed F b
  passed_framed passed = clear_framed (passed Header (lit< tt)) (passed Sections (lit< tt))

  -- a file whose records were checked is filled by them
  module _ (passed : Passed F b 9) where
    framed : WellFramed F b
    framed = passed_framed (λ c h. passed c (omega arith))

    pub passed_filled : Filled F b
    passed_filled = record {
      framed = framed;
      states_hold = clear_holds (states b) (state_byte F) state_offset (StatesRule F b)
          (λ r. elim [ Kind ↦ stable_le _ _ | Estimate ↦ stable_le _ _ | FirstAction ↦ stable_eq _ _ | ActionCount ↦ stable_le _ _ ]) (passed StateField (lit< tt));
      actions_hold = clear_holds (actions b) (action_byte F b) action_offset (ActionsRule F b)
          (λ r. elim [ Cost ↦ stable_within _ _ _ | FirstOutcome ↦ stable_eq _ _ | OutcomeCount ↦ stable_within _ _ _ ]) (passed ActionField (lit< tt));
      outcomes_hold = clear_holds (outcomes b) (outcome_byte F b) outcome_offset (OutcomesRule F b)
          (λ r. elim [ Target ↦ stable_le _ _ | Weight ↦ stable_within _ _ _ ]) (passed OutcomeField (lit< tt));
      actions_counted = stable_eq _ _ (λ wrong. passed Counts (lit< tt) (states b - 1) (state_byte F (states b - 1) + 7) (inl (omega (arith, framed.some_state), refl, wrong)));
      outcomes_counted = stable_eq _ _ (λ wrong. elim (dec_le 1 (actions b)) [
        | yes h ↦ passed Counts (lit< tt) (actions b - 1) (action_byte F b (actions b - 1) + 6) (inr (omega arith, refl, wrong))
        | no h ↦ let none : actions b ≡ 0 = omega arith in
            wrong (omega (arith, sum_zero (outcome_count F b) (actions b) none, framed.outcomes_none none))
      ]);
    }

  module _ (sound : Sound F b) where
    pub sound_filled : Filled F b
    sound_filled = passed_filled (λ c _. sound c)

    pub weights_hold : Holds (actions b) (WeightsRule F b)
    weights_hold = clear_holds (actions b) (action_byte F b) whole_offset (WeightsRule F b) (λ r p. stable_eq _ _) (sound Weights)

    pub consistency_holds : Holds (actions b) (ConsistencyRule F b)
    consistency_holds = clear_holds (actions b) (action_byte F b) whole_offset (ConsistencyRule F b)
        (λ r p h s known has. stable_le _ _ (λ no'. h (λ rule. no' (rule s known has)))) (sound Consistency)
