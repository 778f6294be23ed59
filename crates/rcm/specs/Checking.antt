-- What the parts of the checks tell: the words of the inner contracts.
use Rattle.std.specs.Prelude.{◌≡◌, ℕ, ◌+◌, ◌<◌, ◌≤◌, List, length, Result, MatchResult}
use Rattle.faults.specs.declared.Cause.{Cause}
use Rattle.faults.specs.declared.FieldFault.{FieldFault}
use Rattle.faults.specs.declared.Place.{Place}
use Rattle.faults.specs.declared.RecordFault.{RecordFault}
use Rattle.faults.specs.Causes.{number}
use Rattle.rcm.specs.Format.{Format}
use Rattle.rcm.specs.Layout.{states, start, actions, outcomes, price, sections_end}
use Rattle.rcm.specs.Checks.{Fails, Clear, FirstFault}

-- no check with a number below `n` fails
abbrev pub Passed : Format → List ℕ → ℕ → Type 0
Passed F b n = (c : Cause) → number c < n → Clear F b c

-- in every record every field keeps its rule
abbrev pub Holds : {Part : Type 0} → ℕ → (ℕ → Part → Type 0) → Type 0
Holds {Part} count rule = (r : ℕ) → r < count → (p : Part) → rule r p

-- the first field of a record to break its rule
pub record FirstPart {Part : Type 0} (first_byte : ℕ) (offset : Part → ℕ) (rule : Part → Type 0) (k : ℕ) : Type 0 where
  pub part : Part
  pub here : k ≡ first_byte + offset part
  pub broken : rule part → ⊥
  pub before : (p : Part) → offset p < offset part → rule p

-- the first fault under one cause
pub record First (F : Format) (b : List ℕ) (c : Cause) (r k : ℕ) : Type 0 where
  pub fails : Fails F b c r k
  pub none_before : (r' k' : ℕ) → k' < k → Fails F b c r' k' → ⊥

-- what the check of a record tells: `good`, and every rule holds; or the first field that breaks its rule
abbrev pub RecordChecked : {X Part : Type 0} → Place → ℕ → ℕ → (Part → ℕ) → (Part → Type 0) → (X → Type 0) → Result X FieldFault → Type 0
RecordChecked {X} {Part} place r first_byte offset rule good =
    λ told. MatchResult told (λ x. good x × ((p : Part) → rule p)) (λ f. (f.place ≡ place) × (f.record ≡ r) × FirstPart first_byte offset rule f.byte)

-- what the checks of one cause tell: `good`, or the first fault
abbrev pub Checked : {X : Type 0} → Format → List ℕ → Cause → (X → Type 0) → Result X RecordFault → Type 0
Checked F b c good = λ told. MatchResult told good (λ f. (f.cause ≡ c) × First F b c f.record f.byte)

-- what the checks up to here tell: `good`, or the first fault of the file; the contracts of public calls say it in full
abbrev pub Tried : {X : Type 0} → Format → List ℕ → (X → Type 0) → Result X RecordFault → Type 0
Tried F b good = λ told. MatchResult told good (λ f. FirstFault F b f.cause f.record f.byte)

-- There is a state, the numbers of records keep their limits, and the file ends with its last section.
abbrev pub Frame : Format → List ℕ → Type 0
Frame F b =
    (1 ≤ states b)
    × (states b ≤ F.states_most)
    × (actions b ≤ F.actions_most)
    × (outcomes b ≤ F.outcomes_most)
    × (length b ≡ sections_end F b)

-- the header is in order, and the length is that of the sections
pub record WellFramed (F : Format) (b : List ℕ) : Type 0 where
  pub some_state : 1 ≤ states b
  pub states_few : states b ≤ F.states_most
  pub start_known : start b < states b
  pub actions_few : actions b ≤ F.actions_most
  pub outcomes_few : outcomes b ≤ F.outcomes_most
  pub outcomes_none : actions b ≡ 0 → outcomes b ≡ 0
  pub price_low : 1 ≤ price b
  pub price_high : price b ≤ F.price_most
  pub ended : length b ≡ sections_end F b
