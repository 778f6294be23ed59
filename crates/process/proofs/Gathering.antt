-- Sums of weight times figure: one outcome more, and how large they get. Assumes nothing.
use mathlib.Core.Path.{◌≡◌}
use mathlib.Core.List.{List, [], ◌∷◌}
use Prim.Native.Nat.{ℕ, ◌+◌, ◌-◌, ◌*◌, ◌^◌, ◌<◌, ◌≤◌, min}
use native.Mathlib.Omega.{arith}
use native.Mathlib.Nat.{mul-le-mul_left, add-mul}
use Rattle.process.specs.Process.{Each, weights}
use Rattle.process.specs.Valuation.{sum_seen}
use Rattle.process.specs.Gathering.{Light, one_more}

sum_more : (os : List (ℕ × ℕ)) (figure weight : ℕ) → sum_seen (one_more os figure weight) ≡ sum_seen os + weight * figure
sum_more [] figure weight = omega arith
sum_more (o ∷ os) figure weight = omega (arith, sum_more os figure weight)

sum_bounded : (os : List (ℕ × ℕ)) → Each (λ o. o.0 < 2 ^ 32) os → sum_seen os ≤ weights os * 2 ^ 32
sum_bounded [] small = omega arith
sum_bounded (o ∷ os) small = omega (arith, sum_bounded os small.1, mul-le-mul_left {m = o.0} {n = 2 ^ 32} o.1 (omega arith), add-mul o.1 (weights os) (2 ^ 32))

pub sum_fits : (os : List (ℕ × ℕ)) → Light os → sum_seen os ≤ 2 ^ 62
sum_fits os light = omega (arith, sum_bounded os light.figures, light.few)

-- where one outcome more is light, the sum with it does not saturate
pub weighed : (os : List (ℕ × ℕ)) (figure weight so_far r : ℕ) → so_far ≡ sum_seen os → Light (one_more os figure weight) → r ≡ min (so_far + weight * figure) (2 ^ 64 - 1) → r ≡ sum_seen (one_more os figure weight)
weighed os figure weight so_far r same light told = omega (arith, sum_more os figure weight, sum_fits (one_more os figure weight) light)
