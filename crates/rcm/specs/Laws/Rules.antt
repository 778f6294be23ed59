-- Where no check fails, every rule holds.
use Rattle.std.specs.Prelude.{◌≡◌, ℕ, ◌+◌, ◌≤◌, Bool, true, false, cond, List, ◌==◌, refl}
use Rattle.std.proofs.Common.{subst, arith, eq-eqb}
use Rattle.std.proofs.Math.Decide.{dec_le}
use Rattle.faults.specs.Limits.{Within}
use Rattle.rcm.specs.Format.{Format}
use Rattle.rcm.specs.Layout.{head_of, actions, outcomes}
use Rattle.rcm.specs.Checks.{Broken, HeaderPart, HeaderRule, SectionsRule, whole, States, Start, Actions, Outcomes, Price}
use Rattle.rcm.specs.Checking.{Holds, WellFramed}

-- a rule that is not broken holds
abbrev pub Stable : Type 0 → Type 0
Stable P = ((P → ⊥) → ⊥) → P

pub stable_le : (m n : ℕ) → Stable (m ≤ n)
stable_le m n h = elim (dec_le m n) [ yes p ↦ p | no p ↦ absurd (h p) ]

pub stable_within : (low high v : ℕ) → Stable (Within low high v)
stable_within low high v h = (stable_le low v (λ no'. h (λ w. no' w.0)), stable_le v high (λ no'. h (λ w. no' w.1)))

pub stable_eq : (m n : ℕ) → Stable (m ≡ n)
stable_eq m n h = let w : Within m m n = stable_within m m n (λ no'. h (λ e. no' (omega arith))) in omega arith

pub clear_holds : {Part : Type 0} (count : ℕ) (first_byte : ℕ → ℕ) (offset : Part → ℕ) (rule : ℕ → Part → Type 0) →
    ((r : ℕ) (p : Part) → Stable (rule r p)) → ((r k : ℕ) → Broken count first_byte offset rule r k → ⊥) → Holds count rule
clear_holds count first_byte offset rule stable clear r h p = stable r p (λ broken. clear r (first_byte r + offset p) (h, (p, refl, broken)))

-- a limit that is 0 for some is at most the limit for the others
pub cond_most : (t : Bool) (m n : ℕ) → n ≤ cond t 0 m → n ≤ m
cond_most true m n h = omega arith
cond_most false m n h = h

pub framed_by : (F : Format) (b : List ℕ) → ((p : HeaderPart) → HeaderRule F (head_of b) p) → SectionsRule F b whole → WellFramed F b
framed_by F b header sections = record {
  some_state = (header States).0;
  states_few = (header States).1;
  start_known = header Start;
  actions_few = header Actions;
  outcomes_few = cond_most (actions b == 0) _ _ (header Outcomes);
  outcomes_none = λ e. let h : outcomes b ≤ 0 = subst (λ (t : Bool). outcomes b ≤ cond t 0 F.outcomes_most) (eq-eqb (actions b) 0 e) (header Outcomes) in omega arith;
  price_low = (header Price).0;
  price_high = (header Price).1;
  ended = sections;
}
