use Rattle.search.specs.Lines.{bounds_of}
use Rattle.planner.proofs.Following.{Followed}
use Rattle.planner.proofs.plan.Plan.after.Given as goal

abbrev pub invariant-loop-call : goal.invariant-loop-call
invariant-loop-call g l = Followed g.M.Model.process g.M.Model.ordered l.initial.plan.model l.calls l.call-index l.plan.model (bounds_of l.plan.bounds)
