-- The checks in their order: what has passed, and the first fault.
use Rattle.std.proofs.Common.{◌≡◌, ℕ, ◌+◌, ◌-◌, ◌<◌, List, [], ◌∷◌, get_or, sym, refl, ap, ◌∙◌, subst, inl, inr, arith, lit<}
use Rattle.std.specs.Prelude.{Result, Ok, Err, IsErrAnd}
use native.Mathlib.Decide.{dec_lt}
use Rattle.faults.specs.declared.Cause.{Cause}
use Rattle.faults.specs.declared.Cause.TheVariants.{Length, Opening, Header, Sections, StateField, ActionField, OutcomeField, Counts, Weights, Consistency}
use Rattle.faults.specs.declared.RecordFault.{RecordFault}
use Rattle.faults.specs.Causes.{number}
use Rattle.rcm.specs.Format.{Format}
use Rattle.rcm.specs.Layout.{head_of}
use Rattle.rcm.specs.Checks.{Fails, Clear, Sound, FirstFault, Before, whole, LengthRule, OpeningPart, OpeningRule, HeaderPart, HeaderRule, SectionsRule}
use Rattle.rcm.specs.Checking.{Passed, First, Tried}

abbrev numbered : ℕ → Cause
numbered n = get_or (Length ∷ Opening ∷ Header ∷ Sections ∷ StateField ∷ ActionField ∷ OutcomeField ∷ Counts ∷ Weights ∷ Consistency ∷ []) (n - 1) Length

numbered_number : (c : Cause) → numbered (number c) ≡ c
numbered_number Length = refl
numbered_number Opening = refl
numbered_number Header = refl
numbered_number Sections = refl
numbered_number StateField = refl
numbered_number ActionField = refl
numbered_number OutcomeField = refl
numbered_number Counts = refl
numbered_number Weights = refl
numbered_number Consistency = refl

-- a cause has its own number, 1 to 10
pub same_cause : (c c' : Cause) → number c ≡ number c' → c ≡ c'
same_cause c c' e = sym (numbered_number c) ∙ ap numbered e ∙ numbered_number c'

number_low : (c : Cause) → 0 < number c
number_low = elim [ Length ↦ lit< tt | Opening ↦ lit< tt | Header ↦ lit< tt | Sections ↦ lit< tt | StateField ↦ lit< tt | ActionField ↦ lit< tt | OutcomeField ↦ lit< tt | Counts ↦ lit< tt | Weights ↦ lit< tt | Consistency ↦ lit< tt ]

number_high : (c : Cause) → number c < 11
number_high = elim [ Length ↦ lit< tt | Opening ↦ lit< tt | Header ↦ lit< tt | Sections ↦ lit< tt | StateField ↦ lit< tt | ActionField ↦ lit< tt | OutcomeField ↦ lit< tt | Counts ↦ lit< tt | Weights ↦ lit< tt | Consistency ↦ lit< tt ]

module _ (F : Format) (b : List ℕ) where
  pub none_passed : Passed F b 1
  none_passed c h = absurd (omega (arith, number_low c))

  -- one more check
  pub passed_more : (c : Cause) → Passed F b (number c) → Clear F b c → Passed F b (number c + 1)
  passed_more c passed clear c' h =
      elim (dec_lt (number c') (number c)) [
        | yes lt ↦ passed c' lt
        | no ge ↦ subst (λ (x : Cause). Clear F b x) (same_cause c c' (omega arith)) clear
      ]

  pub all_passed : Passed F b 11 → Sound F b
  all_passed passed c = passed c (number_high c)

  pub first_fault : (c : Cause) (r k : ℕ) → Passed F b (number c) → First F b c r k → FirstFault F b c r k
  first_fault c r k passed first = record { fails = first.fails; none_before = none }
    where
      same : (c' : Cause) → c ≡ c' → (r' k' : ℕ) → k' < k → Fails F b c' r' k' → ⊥
      same c' e = subst (λ (x : Cause). (r' k' : ℕ) → k' < k → Fails F b x r' k' → ⊥) e first.none_before

      none : (c' : Cause) (r' k' : ℕ) → Before (number c') k' (number c) k → Fails F b c' r' k' → ⊥
      none c' r' k' (inl lt) f = passed c' lt r' k' f
      none c' r' k' (inr (e, lt)) f = same c' (same_cause c c' (sym e)) r' k' lt f

  -- the fault of a check after which nothing was tried
  pub fault_of : (c : Cause) (f : RecordFault) → Passed F b (number c) → (f.cause ≡ c) × First F b c f.record f.byte →
      FirstFault F b f.cause f.record f.byte
  fault_of c f passed (e, first) = rw e (first_fault c _ _ passed first)

  -- and it is told unchanged by those that called the check
  pub passed_on : {X : Type 0} (good : X → Type 0) (r : Result X RecordFault) (c : Cause) (f : RecordFault) →
      IsErrAnd r (λ e. e ≡ f) → Passed F b (number c) → (f.cause ≡ c) × First F b c f.record f.byte → Tried F b good r
  passed_on good (Ok x) c f h passed first = absurd h
  passed_on good (Err e) c f h passed first = rw h (fault_of c f passed first)

  -- a check of the file as a whole passes where its rule holds
  pub after_length : LengthRule F b whole → Passed F b 2
  after_length holds = passed_more Length none_passed (λ r k f. f.1.2 holds)

  pub after_opening : Passed F b 2 → ((p : OpeningPart) → OpeningRule F b p) → Passed F b 3
  after_opening passed holds = passed_more Opening passed (λ r k f. f.1.2 (holds f.1.0))

  pub after_header : Passed F b 3 → ((p : HeaderPart) → HeaderRule F (head_of b) p) → Passed F b 4
  after_header passed holds = passed_more Header passed (λ r k f. f.1.2 (holds f.1.0))

  pub after_sections : Passed F b 4 → SectionsRule F b whole → Passed F b 5
  after_sections passed holds = passed_more Sections passed (λ r k f. f.1.2 holds)
