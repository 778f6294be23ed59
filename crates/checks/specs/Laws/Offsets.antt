-- A field stands within its record, and records of one width do not overlap.
use Rattle.std.specs.Prelude.{List, ◌↔◌}
use Rattle.std.proofs.Common.{◌≡◌, ℕ, ◌+◌, ◌*◌, ◌<◌, ◌≤◌, mul-le-mul_left, mul-suc, arith, lit<}
use native.Mathlib.Decide.{dec_lt}
use Rattle.rcm.specs.Format.{version_1}
use Rattle.rcm.specs.Layout.{state_byte, action_byte, outcome_byte}
use Rattle.rcm.specs.Checks.{StatePart, Kind, Estimate, FirstAction, ActionCount, state_offset, ActionPart, Cost, FirstOutcome, OutcomeCount, action_offset, OutcomePart, Target, Weight, outcome_offset}

pub state_offset_low : (p : StatePart) → state_offset p < 8
state_offset_low = elim [ Kind ↦ lit< tt | Estimate ↦ lit< tt | FirstAction ↦ lit< tt | ActionCount ↦ lit< tt ]

pub action_offset_low : (p : ActionPart) → action_offset p < 7
action_offset_low = elim [ Cost ↦ lit< tt | FirstOutcome ↦ lit< tt | OutcomeCount ↦ lit< tt ]

pub outcome_offset_low : (p : OutcomePart) → outcome_offset p < 4
outcome_offset_low = elim [ Target ↦ lit< tt | Weight ↦ lit< tt ]

-- a record ends before a later one begins
pub grows : (width n m : ℕ) → n < m → width * n + width ≤ width * m
grows width n m h = omega (arith, mul-le-mul_left width h, mul-suc width n)

pub same_record : (base width r r' o o' k : ℕ) → o < width → o' < width → k ≡ base + width * r + o → k ≡ base + width * r' + o' → r ≡ r'
same_record base width r r' o o' k low low' e e' =
    elim (dec_lt r r') [
      | yes h ↦ absurd (omega (arith, grows width r r' h))
      | no h ↦ elim (dec_lt r' r) [ yes h' ↦ absurd (omega (arith, grows width r' r h')) | no h' ↦ omega arith ]
    ]

-- a field of a record stands before the next record
pub states_apart : (i j : ℕ) (p : StatePart) → i < j → state_byte version_1 i + state_offset p < state_byte version_1 j
states_apart i j p h = omega (arith, state_offset_low p)

pub actions_apart : (b : List ℕ) (i j : ℕ) (p : ActionPart) → i < j → action_byte version_1 b i + action_offset p < action_byte version_1 b j
actions_apart b i j p h = omega (arith, action_offset_low p)

pub outcomes_apart : (b : List ℕ) (i j : ℕ) (p : OutcomePart) → i < j → outcome_byte version_1 b i + outcome_offset p < outcome_byte version_1 b j
outcomes_apart b i j p h = omega (arith, outcome_offset_low p)

-- what a check calls a fault is the broken rule itself
pub itself : {A : Type 0} → A ↔ A
itself = ((λ a. a), (λ a. a))
