-- An action below the bar becomes the best; another leaves the best as it is.
use Rattle.std.proofs.Common.{◌≡◌, arith, rules}
use Rattle.search.specs.Lines.{bounds_of}
use Rattle.search.proofs.BestAction.{worth_of, least_kept, least_found, chosen}
use Rattle.search.proofs.view.View.choose.Goals as goal
use Rattle.search.proofs.view.View.choose.Goals.{then-value-from, else-value-from}

pub loop-a-preserved : goal.loop-a-preserved
loop-a-preserved g c =
    let worth = worth_of g.V.Valuing.valuation (g.M.Model.process c.args.self.model.now) (bounds_of c.args.self.bounds.now).lower c.args.s in
    let told : c.action_value-value.result ≡ worth c.loop-a.a = search rules in
    elim c.if-value-from.branch [
      | then-value-from w ↦ simp (w.best-is, w.least-is) (least_found worth _ _ _ _ c.loop-a.invariant _ told (omega (arith, c.from.ensures)))
      | else-value-from w ↦ simp (w.best-is, w.least-is) (least_kept worth _ _ _ _ c.loop-a.invariant (omega (arith, told, c.from.ensures)))
    ]

pub returns-in_err-action : goal.returns-in_err-action
returns-in_err-action g c =
    let told = chosen g.V.Valuing.valuation (g.M.Model.process c.args.self.model.now) (bounds_of c.args.self.bounds.now).lower c.args.s c.loop-a.a _ (omega (arith, c.actions-a-end.ensures)) _ c.loop-a.invariant in
    search (rules, told)

pub returns : goal.returns
returns g c =
    let told = chosen g.V.Valuing.valuation (g.M.Model.process c.args.self.model.now) (bounds_of c.args.self.bounds.now).lower c.args.s c.loop-a.a _ (omega (arith, c.actions-a-end.ensures)) _ c.loop-a.invariant in
    search (rules, told)
