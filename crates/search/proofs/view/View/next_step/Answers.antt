-- A step that was found is one that a state of the plan wants; where none was found, no state of the plan wants one.
use Rattle.std.proofs.Common.{Some, rules}
use Rattle.planning.specs.Steps.{Settled}
use Rattle.search.specs.Lines.{bounds_of}
use Rattle.search.specs.Stepping.{Expands, RaisesLower, RaisesUpper}
use Rattle.search.proofs.Scanning.{by_result, next_expansion, next_lower_backup, next_upper_backup}
use Rattle.search.proofs.view.View.next_step.Goals as goal

pub returns-in-Some : goal.returns-in-Some
returns-in-Some g c =
    let (s, here, made) = c.find_map.ensures.some _ c.in-Some.is in
    let wanted : Expands (g.M.Model.process c.args.self.model.now) (bounds_of c.args.self.bounds.now) s (Some c.in-Some.step) = search rules in
    next_expansion _ _ _ _ s ((c.planned-found.ensures s).0 here) _ wanted

pub returns-in-Some-find_map : goal.returns-in-Some-find_map
returns-in-Some-find_map g c =
    let (s, here, made) = c.find_map-2.ensures.some _ c.in-Some-find_map.is in
    let wanted : RaisesLower g.V.Valuing.valuation (g.M.Model.process c.args.self.model.now) (bounds_of c.args.self.bounds.now) s (Some c.in-Some-find_map.step) = search rules in
    next_lower_backup _ _ _ _ s ((c.planned-found.ensures s).0 here) _
    (λ t planned. let made = c.find_map.ensures.none c.in_default.is t ((c.planned-found.ensures t).1 planned) in search rules)
    wanted

pub returns : goal.returns
returns g c =
    let p = g.M.Model.process c.args.self.model.now in
    let x = bounds_of c.args.self.bounds.now in
    let settled : Settled g.V.Valuing.valuation p x = record {
      expanded = λ t planned. let made = c.find_map.ensures.none c.in_default.is t ((c.planned-found.ensures t).1 planned) in search rules;
      backed_up = λ t planned. let made = c.find_map-2.ensures.none c.in_default-find_map.is t ((c.planned-found.ensures t).1 planned) in search rules;
    } in
    by_result c.find_map-3.result
    (λ e. record {
      settled = settled;
      backed_up = λ t planned. let made = c.find_map-3.ensures.none e t ((c.planned-found.ensures t).1 planned) in search rules;
    })
    (λ step e.
    let (s, here, made) = c.find_map-3.ensures.some step e in
    let wanted : RaisesUpper g.V.Valuing.valuation g.W.Valuing.valuation p x s (Some step) = search rules in
    next_upper_backup _ _ _ _ s ((c.planned-found.ensures s).0 here) _ settled wanted)
