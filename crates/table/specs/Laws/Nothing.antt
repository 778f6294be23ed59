-- What is read of no bytes: zeros.
use Rattle.std.specs.Prelude.{◌≡◌, ℕ, [], cond, nat_lt, refl}
use Rattle.std.proofs.Common.{ap, le-ltb, arith}
use Rattle.rcm.specs.declared.records.Head.{Head}
use Rattle.rcm.specs.Format.{version_1, u16_at, u32_at}
use Rattle.rcm.specs.Layout.{head_of, states, state_told, action_told, outcome_told, no_state, no_action, no_outcome}

pub no_head : head_of [] ≡ record { states = 0; start = 0; actions = 0; outcomes = 0; price = 0 }
unfolding u16_at u32_at
no_head = refl

pub no_states : states [] ≡ 0
no_states = ap (λ (h : Head). h.states) no_head

past : {R : Type 0} (x zeros : R) (i n : ℕ) → n ≡ 0 → cond (nat_lt i n) x zeros ≡ zeros
past x zeros i n none = let e = le-ltb i n (omega (arith, none)) in rw e

pub none_state : (s : ℕ) → state_told version_1 [] s ≡ no_state
none_state s = past _ _ s _ no_states

pub none_action : (i : ℕ) → action_told version_1 [] i ≡ no_action
none_action i = past _ _ i _ (ap (λ (h : Head). h.actions) no_head)

pub none_outcome : (i : ℕ) → outcome_told version_1 [] i ≡ no_outcome
none_outcome i = past _ _ i _ (ap (λ (h : Head). h.outcomes) no_head)
