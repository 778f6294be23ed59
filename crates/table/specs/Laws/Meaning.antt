-- A file that keeps the layout means a process in order.
use Rattle.std.specs.Prelude.{◌≡◌, ℕ, ◌+◌, ◌*◌, ◌<◌, ◌≤◌, true, cond, List, [], ◌∷◌, ◌==◌, nat_eq, refl}
use Rattle.std.proofs.Common.{sym, ◌∙◌, ap, ap₂, arith}
use Rattle.process.specs.Process.{Process, Each, weighted, ActionInOrder, TerminalInOrder, OpenInOrder, InOrder}
use Rattle.rcm.specs.declared.records.StateRecord.{StateRecord}
use Rattle.rcm.specs.Format.{Format, Proper}
use Rattle.rcm.specs.Layout.{is_terminal, states, actions, outcomes, state_record, action_record, estimate, action, actions_of, outcome, outcomes_of, decoded}
use Rattle.rcm.specs.Checks.{Sound, whole, Estimate, ActionCount, Cost, OutcomeCount, Target, Weight, Has}
use Rattle.rcm.specs.Laws.Rules.{cond_most}
use Rattle.rcm.specs.Laws.Runs.{run_length, run_none, each_run}
use Rattle.rcm.specs.Laws.Told.{state_here}
use Rattle.checks.specs.Filling.{Filled}
use Rattle.checks.specs.Laws.Inside.{actions_inside, outcomes_inside}
use Rattle.checks.specs.Laws.Sound.{sound_filled, weights_hold, consistency_holds}

weighted_same : (f g : ℕ → ℕ) (os : List (ℕ × ℕ)) → Each (λ o. f o.0 ≡ g o.0) os → weighted f os ≡ weighted g os
weighted_same f g [] e = refl
weighted_same f g (o ∷ os) (e, es) = ap₂ (λ (x y : ℕ). o.1 * x + y) e (weighted_same f g os es)

module _ (F : Format) (b : List ℕ) (sound : Sound F b) where
  filled : Filled F b
  filled = sound_filled F b sound

  abbrev told : Process
  told = decoded F b

  estimate_told : (s : ℕ) → s < states b → told.estimate s ≡ estimate F b s
  estimate_told s h = ap (λ (r : StateRecord). r.estimate) (state_here F b s h)

  outcome_known : (a : ℕ) → a < actions b → (o : ℕ) → (action_record F b a).first ≤ o → o < (action_record F b a).first + (action_record F b a).count →
      ((outcome F b o).0 < states b) × (1 ≤ (outcome F b o).1)
  outcome_known a h o low high =
      let inside : o < outcomes b = omega (arith, outcomes_inside F b filled a h) in
      (filled.outcomes_hold o inside Target, (filled.outcomes_hold o inside Weight).0)

  action_in_order : Proper F → (s : ℕ) → s < states b → (a : ℕ) → Has (state_record F b s) a → ActionInOrder told s (action F b a)
  action_in_order proper s known a has =
      let inside : a < actions b = omega (arith, has, actions_inside F b filled s known) in
      let first = (action_record F b a).first in
      let count = (action_record F b a).count in
      let same : weighted told.estimate (outcomes_of F b (action_record F b a)) ≡ weighted (estimate F b) (outcomes_of F b (action_record F b a)) =
      weighted_same _ _ _ (each_run (outcome F b) (λ o. told.estimate o.0 ≡ estimate F b o.0) first count
      (λ o low high. estimate_told _ (outcome_known a inside o low high).0)) in
      record {
        cost_low = (filled.actions_hold a inside Cost).0;
        cost_high = omega (arith, filled.actions_hold a inside Cost, proper.cost_high);
        some_outcome = omega (arith, filled.actions_hold a inside OutcomeCount, run_length (outcome F b) first count);
        outcomes_known = each_run (outcome F b) (λ o. (o.0 < states b) × (1 ≤ o.1)) first count (outcome_known a inside);
        weights_add_up = weights_hold F b sound a inside whole;
        consistent = rw (estimate_told s known, same) (consistency_holds F b sound a inside whole s known has);
      }

  terminal_in_order : (s : ℕ) → s < states b → told.terminal s ≡ true → TerminalInOrder told s
  terminal_in_order s known e =
      let here = state_here F b s known in
      let one : nat_eq (state_record F b s).kind 1 ≡ true = ap (λ (r : StateRecord). nat_eq r.kind 1) (sym here) ∙ e in
      let zero_most : (m n : ℕ) → n ≤ cond ((state_record F b s).kind == 1) 0 m → n ≡ 0 = λ m n h. let z : n ≤ 0 = rw one at h in omega arith in
      record {
        estimate_zero = estimate_told s known ∙ zero_most _ _ (filled.states_hold s known Estimate);
        no_actions = ap (actions_of F b) here ∙ run_none (action F b) _ _ (zero_most _ _ (filled.states_hold s known ActionCount));
      }

  open_in_order : Proper F → (s : ℕ) → s < states b → OpenInOrder told s
  open_in_order proper s known =
      let same = ap (actions_of F b) (state_here F b s known) in
      let first = (state_record F b s).first in
      let count = (state_record F b s).count in
      let few : count ≤ F.actions_of_state_most = cond_most (is_terminal (state_record F b s)) F.actions_of_state_most count (filled.states_hold s known ActionCount) in
      let each : Each (ActionInOrder told s) (actions_of F b (state_record F b s)) =
      each_run (action F b) (ActionInOrder told s) first count (λ a low high. action_in_order proper s known a (low, high)) in
      record {
        actions_few = rw same (omega (arith, run_length (action F b) first count, proper.actions_few));
        actions_in_order = rw same each;
      }

  pub sound_in_order : Proper F → InOrder told
  sound_in_order proper = record {
    some_state = filled.framed.some_state;
    states_few = omega (arith, filled.framed.states_few, proper.states_few);
    start_known = filled.framed.start_known;
    price_low = filled.framed.price_low;
    price_high = omega (arith, filled.framed.price_high, proper.price_high);
    total_low = proper.total_low;
    total_high = proper.total_high;
    terminals = terminal_in_order;
    opens = λ s known _. open_in_order proper s known;
    estimate_capped = λ s known. rw (estimate_told s known) (cond_most _ _ _ (filled.states_hold s known Estimate));
  }
