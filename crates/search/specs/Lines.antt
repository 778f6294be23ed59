-- The bounds that the lines give. A state past the last line is told as a blank line. Assumes nothing.
use Rattle.std.specs.Prelude.{ℕ, false, slice_index_or}
use Rattle.planning.specs.Steps.{Bounds}
use Rattle.search.specs.declared.bounds.Bounds.{Bounds as Lines}
use Rattle.search.specs.declared.bounds.Line.{Line}

abbrev pub blank : Line
blank = record { expanded = false; lower = 0; upper = 0 }

abbrev pub line_at : Lines → ℕ → Line
line_at x s = slice_index_or x.lines s blank

abbrev pub bounds_of : Lines → Bounds
bounds_of x = record { expanded = λ s. (line_at x s).expanded; lower = λ s. (line_at x s).lower; upper = λ s. (line_at x s).upper }
