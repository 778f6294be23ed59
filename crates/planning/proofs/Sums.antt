-- Sums of figures over the numbers below n: a sum grows where one figure does and no other gets smaller. Assumes nothing.
use Rattle.std.proofs.Common.{◌≡◌, ℕ, zero, suc, ◌+◌, ◌*◌, ◌<◌, ◌≤◌, inl, inr, suc-mul, arith}
use Rattle.std.proofs.lemmas.Bool.{cases_lt}

abbrev pub sum_below : (ℕ → ℕ) → ℕ → ℕ
sum_below f zero = 0
sum_below f (suc n) = sum_below f n + f n

sum_mono : (f g : ℕ → ℕ) (n : ℕ) → ((r : ℕ) → r < n → f r ≤ g r) → sum_below f n ≤ sum_below g n
sum_mono f g zero below = omega arith
sum_mono f g (suc n) below = omega (arith, below n (omega arith), sum_mono f g n (λ r h. below r (omega arith)))

pub sum_grows : (f g : ℕ → ℕ) (n s : ℕ) → s < n → f s < g s → ((r : ℕ) → (r ≡ s → ⊥) → r < n → f r ≤ g r) → sum_below f n < sum_below g n
sum_grows f g zero s h grown others = omega arith
sum_grows f g (suc n) s h grown others = elim (cases_lt s n) [
  | inl before ↦ omega (arith, others n (omega arith) (omega arith), sum_grows f g n s before grown (λ r apart l. others r apart (omega arith)))
  | inr last ↦ let e : s ≡ n = omega arith in omega (arith, rw e at grown, sum_mono f g n (λ r l. others r (omega arith) (omega arith)))
]

sum_of_one : (c n : ℕ) → sum_below (λ _. c) n ≡ n * c
sum_of_one c zero = omega arith
sum_of_one c (suc n) = omega (arith, sum_of_one c n, suc-mul n c)

module _ (f : ℕ → ℕ) (c n : ℕ) (capped : (r : ℕ) → r < n → f r ≤ c) where
  pub sum_capped : sum_below f n ≤ n * c
  sum_capped = omega (arith, sum_of_one c n, sum_mono f (λ _. c) n capped)

  -- where a sum has reached its cap, so has each summand
  pub sum_full : n * c ≤ sum_below f n → (s : ℕ) → s < n → c ≤ f s
  sum_full full s h = elim (cases_lt (f s) c) [
    | inl below ↦ omega (arith, sum_of_one c n, sum_grows f (λ _. c) n s h below (λ r _. capped r))
    | inr top ↦ top
  ]
