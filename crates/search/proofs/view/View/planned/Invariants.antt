use Rattle.std.proofs.Common.{◌-◌}
use Rattle.search.specs.Lines.{bounds_of}
use Rattle.search.proofs.Walking.{Walked}
use Rattle.search.proofs.view.View.planned.Given as goal

abbrev pub invariant-loop-s : goal.invariant-loop-s
invariant-loop-s g l = Walked g.V.Valuing.valuation (g.M.Model.process l.self.model.now) (bounds_of l.self.bounds.now) l.found

abbrev pub decreases-loop-s : goal.decreases-loop-s
decreases-loop-s g l = 1024 - l.found.visited
