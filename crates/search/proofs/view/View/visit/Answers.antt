use Rattle.std.proofs.Common.{sym, ◌∙◌, rules}
use Rattle.search.proofs.Walking.{grown_none}
use Rattle.search.proofs.Visiting.{from_best}
use Rattle.search.proofs.view.View.visit.Goals as goal

pub returns-in-Some : goal.returns-in-Some
returns-in-Some g c = from_best _ _ _ _ _ _ _ c.in-Some.ensures (sym c.terminal.ensures ∙ c.if-not-terminal.true) (sym c.expanded.ensures ∙ c.if-expanded.true) c.find_outcomes.ensures

pub returns-else-not-terminal : goal.returns-else-not-terminal
returns-else-not-terminal g c = grown_none _ _ (λ s leads. search rules)
