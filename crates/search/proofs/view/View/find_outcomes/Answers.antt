use Rattle.std.proofs.Common.{ℕ, ap, arith}
use Rattle.search.proofs.ActionValue.{taken}
use Rattle.search.proofs.Walking.{outcomes_more, outcomes_all}
use Rattle.search.proofs.view.View.find_outcomes.Goals as goal

pub add-requires : goal.add-requires
add-requires g c =
    let action = taken _ _ (g.met.M.Model.told c.args.self.model.now) _ _ c.requires in
    omega (arith, action.places c.loop-k.k (omega (arith, c.outcomes-k-end.ensures)), ap (λ (o : ℕ × ℕ). o.0) c.outcome-to.ensures)

pub loop-k-preserved : goal.loop-k-preserved
loop-k-preserved g c = outcomes_more _ _ _ _ _ _ c.outcome-to.ensures c.loop-k.invariant c.add.ensures

pub returns : goal.returns
returns g c = outcomes_all _ _ _ _ (omega (arith, c.outcomes-k-end.ensures)) c.loop-k.invariant
