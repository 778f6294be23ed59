use Rattle.process.specs.Process.{action_at}
use Rattle.search.specs.Walking.{Grown, AmongFirst}
use Rattle.search.proofs.view.View.find_outcomes.Given as goal

abbrev pub invariant-loop-k : goal.invariant-loop-k
invariant-loop-k g l = Grown (AmongFirst (action_at (g.M.Model.process l.self.model.now) l.s l.a).outcomes l.k) l.initial.found l.found
