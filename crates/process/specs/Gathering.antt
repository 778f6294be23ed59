-- Outcomes gathered one by one. Assumes nothing.
use Rattle.std.specs.Prelude.{List, [], ◌∷◌, ◌++◌, ℕ, ◌^◌, ◌<◌, ◌≤◌}
use Rattle.process.specs.Process.{Each, weights}

-- Figures of 32 bits, and weights that add up to at most 2 ^ 30: every sum of weight times figure fits 64 bits.
pub record Light (os : List (ℕ × ℕ)) : Type 0 where
  pub figures : Each (λ o. o.0 < 2 ^ 32) os
  pub few : weights os ≤ 2 ^ 30

-- one outcome more: its figure and its weight
abbrev pub one_more : List (ℕ × ℕ) → ℕ → ℕ → List (ℕ × ℕ)
one_more os figure weight = os ++ ((figure, weight) ∷ [])
