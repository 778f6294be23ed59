-- One more state is marked, and stands last in the order. Assumes nothing.
use Rattle.std.proofs.Common.{◌≡◌, ℕ, zero, suc, ◌+◌, ◌<◌, Bool, true, false, List, [], ◌∷◌, ◌++◌, length, get_or, set, take, replicate, sym, refl, ◌∙◌, inl, inr, ⊎_elim, le_of_suc-le-suc, not-suc-le-zero, arith, get_or-set_other}
use mathlib.Core.Bool.{false≢true}
use native.Mathlib.Decide.{ℕ_discrete}
use Rattle.std.proofs.lemmas.List.{take_more_set}
use Rattle.std.proofs.lemmas.List.Elements.{Contains-append_left, Contains-push, Contains-push_cases}
use Rattle.search.specs.Walking.{Listed, Grown, Same, unmarked}
use Rattle.search.proofs.Lookups.{at_set, get_or_replicated}

-- a mark that is set was missing
unmarked_set : (bs : List Bool) (s : ℕ) → s < length bs → get_or bs s false ≡ false → unmarked (set bs s true) + 1 ≡ unmarked bs
unmarked_set [] s h e = absurd (not-suc-le-zero h)
unmarked_set (b ∷ bs) zero h e = rw e (omega arith)
unmarked_set (b ∷ bs) (suc s) h e = omega (arith, unmarked_set bs s (le_of_suc-le-suc h) e)

pub nothing_listed : Listed (replicate 1024 false) (replicate 1024 0) 0
nothing_listed = record {
  full = refl;
  agree = λ s. (λ m. absurd (false≢true (sym (get_or_replicated 1024 s false) ∙ m)), λ h. absurd (not-suc-le-zero h.1));
}

module _ (marks : List Bool) (order : List ℕ) (count s : ℕ) (marks_many : length marks ≡ 1024) (order_many : length order ≡ 1024) (within : s < 1024) (listed : Listed marks order count) (new : get_or marks s false ≡ false) where
  pub room : count < 1024
  room = omega (arith, listed.full, unmarked_set marks s (omega arith) new)

  in_order : take (count + 1) (set order count s) ≡ take count order ++ s ∷ []
  in_order = take_more_set order count s (omega (arith, room))

  pub listed_more : Listed (set marks s true) (set order count s) (count + 1)
  listed_more = record {
    full = omega (arith, listed.full, unmarked_set marks s (omega arith) new);
    agree = λ r. rw in_order (
      λ m. elim (ℕ_discrete r s) [
        | yes same ↦ rw same (Contains-push (take count order) s)
        | no other ↦ Contains-append_left _ _ r ((listed.agree r).0 (sym (get_or-set_other marks s r true false other) ∙ m))
      ],
      λ h. at_set (λ b. b ≡ true) marks s r true false (omega arith) (λ _. refl)
          (λ other. ⊎_elim (listed.agree r).1 (λ same. absurd (other (sym same))) (Contains-push_cases (take count order) s r h)),
    );
  }

  pub grown_added : (visited : ℕ) → Grown (Same s) (record { states = take count order; visited = visited }) (record { states = take (count + 1) (set order count s); visited = visited })
  grown_added visited = rw in_order (record {
    more = s ∷ [];
    after = refl;
    same_visited = refl;
    only = λ r h. ⊎_elim inl (λ same. inr (sym same)) (Contains-push_cases (take count order) s r h);
    all = λ r same. rw same (Contains-push (take count order) s);
  })
