use Rattle.search.proofs.Beginning.{Filled}
use Rattle.search.proofs.bounds.Bounds.begin.Given as goal

abbrev pub invariant-loop-s : goal.invariant-loop-s
invariant-loop-s g l = Filled (g.M.Model.process l.model).estimate l.s l.line-items
