-- Faults of a section's records: from its fields' rules to the checks, and the first fault.
use Rattle.std.proofs.Common.{◌≡◌, ℕ, ◌+◌, ◌<◌, subst, arith}
use native.Mathlib.Decide.{dec_lt}
use Rattle.std.specs.Prelude.{List, ◌↔◌}
use Rattle.faults.specs.declared.Cause.{Cause}
use Rattle.rcm.specs.Format.{Format}
use Rattle.rcm.specs.Checks.{Fails, Broken}
use Rattle.rcm.specs.Checking.{Holds, FirstPart, First}

module _ {Part : Type 0} (count : ℕ) (first_byte : ℕ → ℕ) (offset : Part → ℕ) (rule : ℕ → Part → Type 0) where
  -- where every rule holds, none is broken
  pub holds_clear : Holds count rule → (r k : ℕ) → Broken count first_byte offset rule r k → ⊥
  holds_clear h r k f = f.1.2 (h r f.0 f.1.0)

  -- the first broken field of a record, after records without one, is the first of the section
  pub first_broken :
      ((r r' : ℕ) (p : Part) → r < r' → first_byte r + offset p < first_byte r') →
      (r k : ℕ) → r < count → Holds r rule → FirstPart (first_byte r) offset (rule r) k →
      Broken count first_byte offset rule r k × ((r' k' : ℕ) → k' < k → Broken count first_byte offset rule r' k' → ⊥)
  first_broken apart r k known before first = ((known, (first.part, first.here, first.broken)), none)
    where
      same : (r' k' : ℕ) → r ≡ r' → k' < k → (p : Part) → k' ≡ first_byte r' + offset p → (rule r' p → ⊥) → ⊥
      same r' k' e = subst (λ (x : ℕ). k' < k → (p : Part) → k' ≡ first_byte x + offset p → (rule x p → ⊥) → ⊥) e
          (λ lt p at no'. no' (first.before p (omega (arith, first.here))))

      none : (r' k' : ℕ) → k' < k → Broken count first_byte offset rule r' k' → ⊥
      none r' k' lt (known', (p, at, broken)) =
          elim (dec_lt r' r) [
            | yes h ↦ broken (before r' h p)
            | no h ↦ elim (dec_lt r r') [
              | yes h' ↦ omega (arith, apart r r' first.part h', first.here)
              | no h' ↦ same r' k' (omega arith) lt p at broken
            ]
          ]

  -- and the first fault of the section's cause
  pub first_fails : (F : Format) (b : List ℕ) (c : Cause) → ((r k : ℕ) → Fails F b c r k ↔ Broken count first_byte offset rule r k) →
      ((r r' : ℕ) (p : Part) → r < r' → first_byte r + offset p < first_byte r') →
      (r k : ℕ) → r < count → Holds r rule → FirstPart (first_byte r) offset (rule r) k → First F b c r k
  first_fails F b c fails apart r k known before first =
      let broken = first_broken apart r k known before first in
      record { fails = (fails r k).1 broken.0; none_before = λ r' k' lt f. broken.1 r' k' lt ((fails r' k').0 f) }
