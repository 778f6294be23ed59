use Rattle.search.proofs.Beginning.{filled_more, filled_all}
use Rattle.search.proofs.bounds.Bounds.begin.Goals as goal

pub loop-s-preserved : goal.loop-s-preserved
loop-s-preserved g c = filled_more _ _ _ _ c.loop-s-test.true c.loop-s.invariant c.estimate.ensures

pub returns : goal.returns
returns g c = filled_all _ _ _ _ (g.met.M.Model.told c.args.model.now) c.loop-s-test.false c.loop-s.invariant
