-- Weighted sums of figures, and what the two roundings make of them. Assumes nothing.
use Rattle.std.specs.Prelude.{◌≡◌, refl, List, [], ◌∷◌, ℕ, suc, ◌+◌, ◌-◌, ◌*◌, ◌/◌, ◌^◌, ◌≤◌}
use Rattle.std.proofs.Common.{inl, inr, le_trans, le_refl, add-le-add, zero-mul, mul-zero, add-mul, mul-add, mul_comm, mul_assoc, mul_left_comm, pow-suc, mul-le-mul_left, div-mul-le_self, le-div_iff_mul-le, eq-zero-or-pos, arith}
use Rattle.std.proofs.Math.Nat.{div-zero, lt-div-mul-add, mul-add-div_right}
use Rattle.process.specs.Process.{Each, weighted}
use Rattle.process.specs.Valuation.{Monotone, seen, sum_seen, down, up}

pub each_map : {X : Type 0} {P Q : X → Type 0} → ((x : X) → P x → Q x) → (xs : List X) → Each P xs → Each Q xs
each_map g [] all = tt
each_map g (x ∷ xs) all = (g x all.0, each_map g xs all.1)

pub weighted_mono : (f g : ℕ → ℕ) (os : List (ℕ × ℕ)) → Each (λ o. f o.0 ≤ g o.0) os → weighted f os ≤ weighted g os
weighted_mono f g [] all = omega arith
weighted_mono f g ((s, w) ∷ os) all = omega (arith, mul-le-mul_left w all.0, weighted_mono f g os all.1)

pub weighted_linear : (f g : ℕ → ℕ) (k : ℕ) (os : List (ℕ × ℕ)) → weighted (λ s. f s + k * g s) os ≡ weighted f os + k * weighted g os
weighted_linear f g k [] = omega (arith, mul-zero k)
weighted_linear f g k ((s, w) ∷ os) = omega (arith, mul-add w (f s) (k * g s), mul_left_comm w k (g s), mul-add k (w * g s) (weighted g os), weighted_linear f g k os)

pub weighted_mul : (f : ℕ → ℕ) (k : ℕ) (os : List (ℕ × ℕ)) → weighted (λ s. f s * k) os ≡ weighted f os * k
weighted_mul f k [] = omega (arith, zero-mul k)
weighted_mul f k ((s, w) ∷ os) = omega (arith, add-mul (w * f s) (weighted f os) k, mul_assoc w (f s) k, weighted_mul f k os)

pub sum_seen_weighted : (f : ℕ → ℕ) (os : List (ℕ × ℕ)) → sum_seen (seen f os) ≡ weighted f os
sum_seen_weighted f [] = refl
sum_seen_weighted f (o ∷ os) = cc (sum_seen_weighted f os)

-- one step more: the total once more
pub pow_step : (k t n : ℕ) → k * t ^ suc n ≡ k * t * t ^ n
pow_step k t n = rw (pow-suc, mul_comm (t ^ n) t, mul_assoc)

sum_seen_mono : (f g : ℕ → ℕ) (os : List (ℕ × ℕ)) → Each (λ o. f o.0 ≤ g o.0) os → sum_seen (seen f os) ≤ sum_seen (seen g os)
sum_seen_mono f g os all = simp sum_seen_weighted (weighted_mono f g os all)

div_mono : (t m n : ℕ) → m ≤ n → m / t ≤ n / t
div_mono t m n h = elim (eq-zero-or-pos t) [
  | inl e ↦ simp (e, div-zero) (omega arith)
  | inr pos ↦ (le-div_iff_mul-le pos).1 (le_trans (div-mul-le_self m t) h)
]

pub down_monotone : Monotone down
down_monotone t c f g os all = omega (arith, div_mono t _ _ (sum_seen_mono f g os all))

pub up_monotone : Monotone up
up_monotone t c f g os all = omega (arith, div_mono t _ _ (add-le-add (sum_seen_mono f g os all) (le_refl (t - 1))))

pub down_times_total : (t c : ℕ) (xs : List (ℕ × ℕ)) → down t c xs * t ≤ c * t + sum_seen xs
down_times_total t c xs = omega (arith, add-mul c (sum_seen xs / t) t, div-mul-le_self (sum_seen xs) t)

pub down_greatest : (t c n : ℕ) (xs : List (ℕ × ℕ)) → 1 ≤ t → n * t ≤ c * t + sum_seen xs → n ≤ down t c xs
down_greatest t c n xs pos h = rw (← mul-add-div_right pos c (sum_seen xs)) ((le-div_iff_mul-le pos).1 h)

pub up_times_total : (t c : ℕ) (xs : List (ℕ × ℕ)) → 1 ≤ t → c * t + sum_seen xs ≤ up t c xs * t
up_times_total t c xs h = omega (arith, add-mul c ((sum_seen xs + (t - 1)) / t) t, lt-div-mul-add {a = sum_seen xs + (t - 1)} h)
