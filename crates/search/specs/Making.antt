-- What making a step does to the bounds, and to the count of steps. Assumes nothing.
use Rattle.std.specs.Prelude.{ℕ, ◌+◌, true}
use Rattle.planning.specs.Steps.{Bounds, Written, Alike}
use Rattle.search.specs.declared.step.Step.{Step}
use Rattle.search.specs.declared.step.Step.TheVariants.{Expand, RaiseLower, RaiseUpper}
use Rattle.search.specs.declared.step.Tally.{Tally}

-- the state of a step
abbrev pub state_of : Step → ℕ
state_of (Expand s) = s
state_of (RaiseLower s n) = s
state_of (RaiseUpper s n) = s

-- one entry is written, and all else is as it was
abbrev pub Made : Step → Bounds → Bounds → Type 0
Made (Expand s) x y = Written x.expanded y.expanded s true × Alike x.lower y.lower × Alike x.upper y.upper
Made (RaiseLower s n) x y = Alike x.expanded y.expanded × Written x.lower y.lower s n × Alike x.upper y.upper
Made (RaiseUpper s n) x y = Alike x.expanded y.expanded × Alike x.lower y.lower × Written x.upper y.upper s n

-- one step more
abbrev pub counted : Step → Tally → Tally
counted (Expand s) t = record { expansions = t.expansions + 1; backups = t.backups }
counted (RaiseLower s n) t = record { expansions = t.expansions; backups = t.backups + 1 }
counted (RaiseUpper s n) t = record { expansions = t.expansions; backups = t.backups + 1 }
