-- The next step from some bounds, and what holds where none is left. Assumes nothing.
use Rattle.std.specs.Prelude.{◌≡◌, ℕ, ◌<◌, ◌≤◌, true, false, Option, Some, None}
use Rattle.planning.specs.Plan.{backup, upper_backup}
use Rattle.planning.specs.Steps.{Bounds, CanExpand, CanRaiseLower, CanRaiseUpper}
use Rattle.process.specs.Process.{Process}
use Rattle.process.specs.Valuation.{Valuation}
use Rattle.search.specs.declared.step.Step.{Step}
use Rattle.search.specs.declared.step.Step.TheVariants.{Expand, RaiseLower, RaiseUpper}

-- the step can be made, and has the figure that it is to give
abbrev pub Next : Valuation → Valuation → Process → Bounds → Step → Type 0
Next V W p x (Expand s) = CanExpand V p x s
Next V W p x (RaiseLower s n) = CanRaiseLower V p x s × (n ≡ backup V p x.lower s)
Next V W p x (RaiseUpper s n) = CanRaiseUpper V W p x s × (n ≡ upper_backup V W p x.lower x.upper s)

-- A step of one kind that a state wants by itself, wherever it stands in the plan; or it wants none of this kind.

abbrev pub Expands : Process → Bounds → ℕ → Option Step → Type 0
Expands p x s None = p.terminal s ≡ false → x.expanded s ≡ true
Expands p x s (Some step) = (step ≡ Expand s) × (p.terminal s ≡ false) × (x.expanded s ≡ false)

-- the figure n gives way to the value v of a backup
abbrev pub Raises : Process → ℕ → ℕ → Step → ℕ → Option Step → Type 0
Raises p n v wanted s None = p.terminal s ≡ false → v ≤ n
Raises p n v wanted s (Some step) = (step ≡ wanted) × (p.terminal s ≡ false) × (n < v)

abbrev pub RaisesLower : Valuation → Process → Bounds → ℕ → Option Step → Type 0
RaisesLower V p x s = Raises p (x.lower s) (backup V p x.lower s) (RaiseLower s (backup V p x.lower s)) s

abbrev pub RaisesUpper : Valuation → Valuation → Process → Bounds → ℕ → Option Step → Type 0
RaisesUpper V W p x s = Raises p (x.upper s) (upper_backup V W p x.lower x.upper s) (RaiseUpper s (upper_backup V W p x.lower x.upper s)) s
