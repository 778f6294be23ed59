-- The figures are gathered one by one, as many as the action has outcomes.
use Rattle.std.proofs.Common.{ℕ, ap, ◌∙◌, arith}
use Rattle.search.proofs.ActionValue.{taken, so_far_more, all_same, all_light}
use Rattle.search.proofs.view.View.action_value.Goals as goal

pub loop-k-preserved : goal.loop-k-preserved
loop-k-preserved g c = λ f tells.
    let action = taken _ _ (g.met.M.Model.told c.args.self.model.now) _ _ c.requires.within in
    so_far_more _ _ _ _ _ (c.loop-k.invariant f tells) (omega (arith, c.outcomes-k-end.ensures)) c.outcome-to.result c.outcome-to.ensures _
    (tells _ _ (omega (arith, action.places c.loop-k.k (omega (arith, c.outcomes-k-end.ensures)), ap (λ (o : ℕ × ℕ). o.0) c.outcome-to.ensures)) c.figure.ensures)
    (omega arith) action.light _ c.gather-all.ensures

pub returns : goal.returns
returns g c = λ f tells.
    let action = taken _ _ (g.met.M.Model.told c.args.self.model.now) _ _ c.requires.within in
    let so_far = c.loop-k.invariant f tells in
    c.close.ensures _ (all_same _ _ _ _ _ so_far (omega (arith, c.outcomes-k-end.ensures))) (all_light _ _ _ _ _ so_far (omega (arith, c.outcomes-k-end.ensures)) action.light) (omega (arith, action.some_total, c.total.ensures))
    ∙ (cc (c.total.ensures, c.cost-cost.ensures))
