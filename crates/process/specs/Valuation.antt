-- What one action is worth, by the figures of its outcomes. Assumes nothing.
use Rattle.std.specs.Prelude.{List, [], ◌∷◌, map, ℕ, ◌+◌, ◌-◌, ◌*◌, ◌/◌, ◌≤◌}
use Rattle.process.specs.Process.{Each}

-- A valuation makes one number of the total weight, an action's cost, and the figure and weight of each outcome.
abbrev pub Valuation : Type 0
Valuation = ℕ → ℕ → List (ℕ × ℕ) → ℕ

-- the outcomes, each with its state's figure in the place of the state
abbrev pub seen : (ℕ → ℕ) → List (ℕ × ℕ) → List (ℕ × ℕ)
seen f os = map (λ o. (f o.0, o.1)) os

-- The law of valuations: if no figure gets smaller, the result does not.
abbrev pub Monotone : Valuation → Type 0
Monotone V = (t c : ℕ) (f g : ℕ → ℕ) (os : List (ℕ × ℕ)) → Each (λ o. f o.0 ≤ g o.0) os → V t c (seen f os) ≤ V t c (seen g os)

-- the sum of weight times figure
abbrev pub sum_seen : List (ℕ × ℕ) → ℕ
sum_seen [] = 0
sum_seen (o ∷ os) = o.1 * o.0 + sum_seen os

-- the cost and the average of the figures, rounded down once
abbrev pub down : Valuation
down t c os = c + sum_seen os / t

-- the same, rounded up once
abbrev pub up : Valuation
up t c os = c + (sum_seen os + (t - 1)) / t
