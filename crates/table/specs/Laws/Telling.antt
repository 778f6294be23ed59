-- What a table tells, read from its bytes, and the law of a model for it.
use Rattle.std.specs.Prelude.{◌≡◌, ℕ, ◌+◌, ◌<◌, ◌≤◌, true, false, List, [], ◌∷◌, nat_lt, slice_index_or}
use Rattle.std.proofs.Math.Path.{refl}
use Rattle.std.proofs.Common.{sym, ◌∙◌, ap, arith, le-ltb}
use Rattle.std.proofs.Math.Decide.{dec_lt}
use Rattle.process.specs.Process.{Action, action_at, no_action, Told}
use Rattle.rcm.specs.Format.{Format, Proper, version_1, u16_at, u32_at}
use Rattle.rcm.specs.Layout.{head_of, is_terminal, states, actions, state_told, action, actions_of, decoded, told, some_bytes}
use Rattle.rcm.specs.Checks.{Sound}
use Rattle.rcm.specs.Laws.Runs.{run_at, run_past, run_none}
use Rattle.rcm.specs.Laws.Told.{state_here}
use Rattle.checks.specs.Filling.{Filled}
use Rattle.checks.specs.Laws.Inside.{actions_inside}
use Rattle.checks.specs.Laws.Sound.{sound_filled}
use Rattle.table.specs.Laws.Nothing.{no_states}
use Rattle.table.specs.Laws.Meaning.{sound_in_order}

module _ (F : Format) where
  none_told : (s : ℕ) → nat_lt s (states []) ≡ false
  none_told s = le-ltb s (states []) (omega (arith, no_states))

  pub states_told : (b : List ℕ) → (told F b).states ≡ (head_of b).states
  unfolding u16_at
  states_told [] = refl
  states_told (x ∷ xs) = refl

  pub start_told : (b : List ℕ) → (told F b).start ≡ (head_of b).start
  unfolding u16_at
  start_told [] = refl
  start_told (x ∷ xs) = refl

  pub price_told : (b : List ℕ) → (told F b).price ≡ (head_of b).price
  unfolding u16_at u32_at
  price_told [] = refl
  price_told (x ∷ xs) = refl

  pub terminal_told : (b : List ℕ) (s : ℕ) → (told F b).terminal s ≡ is_terminal (state_told F b s)
  terminal_told [] s = let e = none_told s in rw e
  terminal_told (x ∷ xs) s = refl

  pub estimate_told : (b : List ℕ) (s : ℕ) → (told F b).estimate s ≡ (state_told F b s).estimate
  estimate_told [] s = let e = none_told s in rw e
  estimate_told (x ∷ xs) s = refl

  pub actions_told : (b : List ℕ) (s : ℕ) → (told F b).actions s ≡ actions_of F b (state_told F b s)
  actions_told [] s = let e = none_told s in rw e (sym (run_none (action F []) 0 0 refl))
  actions_told (x ∷ xs) s = refl

  -- of a state that the file lacks nothing is told
  outside : (b : List ℕ) (s : ℕ) → (told F b).states ≤ s → ((told F b).terminal s ≡ false) × ((told F b).estimate s ≡ 0) × ((told F b).actions s ≡ [])
  outside [] s h = (refl, refl, refl)
  outside (x ∷ xs) s h = let e = le-ltb s (states (x ∷ xs)) h in (rw e, rw e, rw e (run_none (action F (x ∷ xs)) 0 0 refl))

  in_order : Proper F → (b : List ℕ) → (some_bytes b ≡ true → Sound F b) → Told (told F b) (some_bytes b)
  in_order proper b kept = record {
    in_order = λ e. rw e (sound_in_order F b (kept e) proper);
    nothing = λ e. rw e;
    outside = outside b;
  }

pub proper_1 : Proper version_1
proper_1 = omega arith

-- a table is a model
pub table_told : (b : List ℕ) → (some_bytes b ≡ true → Sound version_1 b) → Told (told version_1 b) (some_bytes b)
table_told = in_order version_1 proper_1

-- no file has no states
pub some_from_state : (b : List ℕ) (s : ℕ) → s < states b → some_bytes b ≡ true
some_from_state [] s h = absurd (omega (arith, no_states))
some_from_state (x ∷ xs) s h = refl

module _ (F : Format) (b : List ℕ) (sound : Sound F b) where
  -- a file that keeps the layout is not empty, and is told as it is decoded
  pub sound_some : some_bytes b ≡ true
  sound_some = some_from_state b 0 (sound_filled F b sound).framed.some_state

  pub sound_told : told F b ≡ decoded F b
  sound_told = let e = sound_some in rw e

module _ (F : Format) (b : List ℕ) (s a : ℕ) where
  -- an action past those of the state
  pub action_past : (state_told F b s).count ≤ a → action_at (told F b) s a ≡ no_action
  action_past h = ap (λ (xs : List Action). slice_index_or xs a no_action) (actions_told F b s)
      ∙ run_past (action F b) (state_told F b s).first (state_told F b s).count a no_action h

  -- an action of the state, by its number in the section
  pub action_told_at : a < (state_told F b s).count → action_at (told F b) s a ≡ action F b ((state_told F b s).first + a)
  action_told_at h = ap (λ (xs : List Action). slice_index_or xs a no_action) (actions_told F b s)
      ∙ run_at (action F b) (state_told F b s).first (state_told F b s).count a no_action h

  -- only a state of the file has an action
  pub state_from_action : a < (state_told F b s).count → s < states b
  state_from_action h =
      elim (dec_lt s (states b)) [
        | yes lt ↦ lt
        | no ge ↦ let e = le-ltb s (states b) (omega arith) in let none : a < 0 = rw e at h in absurd (omega arith)
      ]

  pub action_known : (some_bytes b ≡ true → Sound F b) → a < (state_told F b s).count → ((state_told F b s).first + a < actions b) × Filled F b
  action_known kept h =
      let known = state_from_action h in
      let filled = sound_filled F b (kept (some_from_state b s known)) in
      let here = state_here F b s known in
      (rw here (omega (arith, actions_inside F b filled s known, rw here at h)), filled)
