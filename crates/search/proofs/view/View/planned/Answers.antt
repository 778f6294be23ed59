use Rattle.search.proofs.Walking.{walked_start, walked_more, walked_all}
use Rattle.search.proofs.view.View.planned.Goals as goal

pub loop-s-init : goal.loop-s-init
loop-s-init g c = walked_start _ _ _ _ _ c.start.ensures (rw c.new-found.ensures at c.add.ensures)

pub loop-s-preserved : goal.loop-s-preserved
loop-s-preserved g c = walked_more _ _ _ _ _ _ _ c.in-Some.ensures c.visit.ensures c.loop-s.invariant

pub returns : goal.returns
returns g c = walked_all _ _ _ _ _ c.in_default.ensures c.loop-s.invariant
