use Rattle.search.specs.Lines.{bounds_of}
use Rattle.search.proofs.BestAction.{LeastOf, worth_of}
use Rattle.search.proofs.view.View.choose.Given as goal

abbrev pub invariant-loop-a : goal.invariant-loop-a
invariant-loop-a g l = LeastOf (worth_of g.V.Valuing.valuation (g.M.Model.process l.self.model.now) (bounds_of l.self.bounds.now).lower l.s) (g.M.Model.process l.self.model.now).price l.a l.best l.least
