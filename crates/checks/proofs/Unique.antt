-- A file has at most one first fault.
use Rattle.std.proofs.Common.{◌≡◌, ℕ, ◌+◌, List, sym, subst, inl, inr, arith}
use native.Mathlib.Decide.{dec_lt}
use Rattle.faults.specs.declared.Cause.{Cause}
use Rattle.faults.specs.declared.Cause.TheVariants.{Length, Opening, Header, Sections, StateField, ActionField, OutcomeField, Counts, Weights, Consistency}
use Rattle.faults.specs.Causes.{number}
use Rattle.rcm.specs.Format.{Format, Proper}
use Rattle.rcm.specs.Layout.{head_of, states, actions_byte, outcomes_byte, action_byte}
use Rattle.rcm.specs.Checks.{Fails, OneFirstFault}
use Rattle.rcm.proofs.Order.{same_cause}
use Rattle.checks.specs.Laws.Offsets.{state_offset_low, action_offset_low, outcome_offset_low, grows, same_record}

module _ (F : Format) (proper : Proper F) (b : List ℕ) (r r' k : ℕ) where
  -- an action's record begins at one byte only
  same_action : k ≡ action_byte F b r + 0 → k ≡ action_byte F b r' + 0 → r ≡ r'
  same_action e e' =
      let room = proper.action_room in
      same_record (actions_byte F (head_of b)) F.action_width r r' 0 0 k (omega arith) (omega arith) e e'

  record_of : (c : Cause) → Fails F b c r k → Fails F b c r' k → r ≡ r'
  record_of Length f f' = omega (arith, f.0, f'.0)
  record_of Opening f f' = omega (arith, f.0, f'.0)
  record_of Header f f' = omega (arith, f.0, f'.0)
  record_of Sections f f' = omega (arith, f.0, f'.0)
  record_of StateField f f' =
      same_record F.header_width F.state_width r r' _ _ k
      (omega (arith, state_offset_low f.1.0, proper.state_room)) (omega (arith, state_offset_low f'.1.0, proper.state_room)) f.1.1 f'.1.1
  record_of ActionField f f' =
      same_record (actions_byte F (head_of b)) F.action_width r r' _ _ k
      (omega (arith, action_offset_low f.1.0, proper.action_room)) (omega (arith, action_offset_low f'.1.0, proper.action_room)) f.1.1 f'.1.1
  record_of OutcomeField f f' =
      same_record (outcomes_byte F (head_of b)) F.outcome_width r r' _ _ k
      (omega (arith, outcome_offset_low f.1.0, proper.outcome_room)) (omega (arith, outcome_offset_low f'.1.0, proper.outcome_room)) f.1.1 f'.1.1
  record_of Counts (inl f) (inl f') = omega (arith, f, f')
  record_of Counts (inl f) (inr f') = absurd (omega (arith, f, f', grows F.state_width r (states b) (omega (arith, f)), proper.state_room))
  record_of Counts (inr f) (inl f') = absurd (omega (arith, f, f', grows F.state_width r' (states b) (omega (arith, f')), proper.state_room))
  record_of Counts (inr f) (inr f') = omega (arith, f, f')
  record_of Weights f f' = same_action f.1.1 f'.1.1
  record_of Consistency f f' = same_action f.1.1 f'.1.1

pub one_first_fault : (F : Format) → Proper F → OneFirstFault F
one_first_fault F proper b c c' r r' k k' first first' = (cause, record_same, byte)
  where
    level : number c ≡ number c'
    level = elim (dec_lt (number c) (number c')) [
      | yes h ↦ absurd (first'.none_before c r k (inl h) first.fails)
      | no h ↦ elim (dec_lt (number c') (number c))
          [ yes h' ↦ absurd (first.none_before c' r' k' (inl h') first'.fails) | no h' ↦ omega arith ]
    ]

    cause : c ≡ c'
    cause = same_cause c c' level

    byte : k ≡ k'
    byte = elim (dec_lt k k') [
      | yes h ↦ absurd (first'.none_before c r k (inr (level, h)) first.fails)
      | no h ↦ elim (dec_lt k' k)
          [ yes h' ↦ absurd (first.none_before c' r' k' (inr (sym level, h')) first'.fails) | no h' ↦ omega arith ]
    ]

    record_same : r ≡ r'
    record_same = record_of F proper b r r' k c first.fails
        (subst (λ (x : Cause). Fails F b x r' k) (sym cause) (subst (λ (x : ℕ). Fails F b c' r' x) (sym byte) first'.fails))
