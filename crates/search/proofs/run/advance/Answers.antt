use Rattle.search.proofs.Running.{ran_none, ran_more, next_within}
use Rattle.search.proofs.run.advance.Goals as goal

pub loop-made-init : goal.loop-made-init
loop-made-init g c = ran_none _ _ _ _ _ c.default-tally.ensures

pub make-requires : goal.make-requires
make-requires g c = next_within _ _ _ _ (g.met.M.Model.told c.args.model.now) _ _ c.in-Some.ensures

pub loop-made-preserved : goal.loop-made-preserved
loop-made-preserved g c = ran_more _ _ _ _ _ _ _ c.loop-made.invariant _ _ _ c.in-Some.ensures c.make.ensures c.count-tally.ensures
