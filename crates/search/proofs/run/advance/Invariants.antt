use Rattle.search.specs.Lines.{bounds_of}
use Rattle.search.proofs.Running.{Ran}
use Rattle.search.proofs.run.advance.Given as goal

abbrev pub invariant-loop-made : goal.invariant-loop-made
invariant-loop-made g l = Ran g.V.Valuing.valuation g.W.Valuing.valuation (g.M.Model.process l.model) (bounds_of l.initial.bounds) (bounds_of l.bounds) l._made l.tally
