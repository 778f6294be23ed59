-- The limits of a number.
use Rattle.std.specs.Prelude.{ℕ, ◌≤◌}

abbrev pub Within : ℕ → ℕ → ℕ → Type 0
Within low high value = (low ≤ value) × (value ≤ high)
