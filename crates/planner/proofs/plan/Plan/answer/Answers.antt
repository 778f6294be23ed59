-- Each answer is as asked; so it keeps the promises.
use Rattle.std.proofs.Common.{rules}
use Rattle.planner.proofs.Keeping.{with_promises}
use Rattle.planner.proofs.plan.Plan.answer.Goals as goal

pub returns-in_err-advice-in-Advice-clause-answered : goal.returns-in_err-advice-in-Advice-clause-answered
returns-in_err-advice-in-Advice-clause-answered g c = with_promises (g.met.M.Model.told _) (search rules)

pub returns-in_ok-expansions-in-Work-clause-answered : goal.returns-in_ok-expansions-in-Work-clause-answered
returns-in_ok-expansions-in-Work-clause-answered g c = with_promises (g.met.M.Model.told _) (search rules)

pub returns-in_ok-lower-in-Figures-clause-answered : goal.returns-in_ok-lower-in-Figures-clause-answered
returns-in_ok-lower-in-Figures-clause-answered g c = with_promises (g.met.M.Model.told _) (search rules)

pub returns-in_ok-advice-in-Advice-clause-answered : goal.returns-in_ok-advice-in-Advice-clause-answered
returns-in_ok-advice-in-Advice-clause-answered g c = with_promises (g.met.M.Model.told _) (search rules)
