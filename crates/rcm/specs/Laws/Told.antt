-- A record that the file has is told as it stands.
use Rattle.std.specs.Prelude.{◌≡◌, ℕ, ◌<◌, List}
use Rattle.std.proofs.Common.{lt-ltb}
use Rattle.rcm.specs.Format.{Format}
use Rattle.rcm.specs.Layout.{states, actions, outcomes, state_record, action_record, outcome_record, state_told, action_told, outcome_told}

module _ (F : Format) (b : List ℕ) where
  pub state_here : (s : ℕ) → s < states b → state_told F b s ≡ state_record F b s
  state_here s h = let e = lt-ltb s (states b) h in rw e

  pub action_here : (a : ℕ) → a < actions b → action_told F b a ≡ action_record F b a
  action_here a h = let e = lt-ltb a (actions b) h in rw e

  pub outcome_here : (o : ℕ) → o < outcomes b → outcome_told F b o ≡ outcome_record F b o
  outcome_here o h = let e = lt-ltb o (outcomes b) h in rw e
