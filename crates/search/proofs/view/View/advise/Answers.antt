-- Each return is the advice of one case: ending, not reached, the best action, or written off.
use Rattle.std.proofs.Common.{arith, rules}
use Rattle.planning.specs.Plan.{at_terminal, outside, not_worth, at_price}
use Rattle.search.proofs.Advising.{advised_best}
use Rattle.search.proofs.view.View.advise.Goals as goal

pub returns-then-terminal : goal.returns-then-terminal
returns-then-terminal g c = at_terminal (search rules)

pub returns-then-not-reaches : goal.returns-then-not-reaches
returns-then-not-reaches g c = outside (search rules) (λ planned. search rules)

pub returns-in-Some : goal.returns-in-Some
returns-in-Some g c = advised_best _ _ _ _ _ c.in-Some.ensures (search rules) (search rules) (λ e. omega arith)

pub returns-in_default : goal.returns-in_default
returns-in_default g c = at_price (search rules) (search rules) (search rules)

pub returns-in_default-2 : goal.returns-in_default-2
returns-in_default-2 g c = not_worth (search rules) (search rules) (omega (arith, c.in_default.ensures))
