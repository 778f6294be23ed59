use Rattle.std.proofs.Common.{ap, ◌∙◌}
use Rattle.planning.proofs.Promising.{kept}
use Rattle.search.specs.Lines.{bounds_of}
use Rattle.planner.proofs.Following.{followed_none, followed_more, followed_all, followed_untouched}
use Rattle.planner.proofs.Keeping.{unmoved_out_of_order}
use Rattle.planner.proofs.plan.Plan.after.Goals as goal

pub loop-call-init : goal.loop-call-init
loop-call-init g c = followed_none _ _ _ _ _ c.begin-plan.ensures.model _ c.begin-plan.ensures.begun

pub loop-call-preserved : goal.loop-call-preserved
loop-call-preserved g c =
    followed_more _ _ _ _ _ _ _ _ _ _ c.loop-call-test.true c.loop-call.invariant c.answer.ensures.model
    (λ ordered cs before. (c.answer.ensures.answered.promises ordered cs before).reached)
    (λ ordered. ap bounds_of (unmoved_out_of_order c.answer.ensures.answered ordered))

pub returns : goal.returns
returns g c = record {
  model = c.loop-call.invariant.same ∙ c.begin-plan.ensures.model;
  kept = λ e. kept _ ((g.met.M.Model.told c.args.model).in_order e) _ _ (followed_all _ _ _ _ _ c.begin-plan.ensures.model _ _ _ c.loop-call.invariant c.loop-call-test.false e);
  untouched = followed_untouched _ _ _ _ _ c.begin-plan.ensures.model _ _ _ c.loop-call.invariant;
}
