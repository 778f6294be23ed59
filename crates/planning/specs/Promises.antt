-- What holds of the bounds after any list of calls. Assumes nothing.
use Rattle.std.specs.Prelude.{◌≡◌, ℕ, ◌+◌, ◌*◌, ◌^◌, ◌≤◌, List, []}
use Rattle.process.specs.Process.{Process, InOrder}
use Rattle.process.specs.Valuation.{Valuation, down, up}
use Rattle.planning.specs.Plan.{Advised}
use Rattle.planning.specs.Steps.{Bounds, Reached, Finished, granted}
use Rattle.planning.specs.Answer.{WholeModel, AnswersFor}
use Rattle.planning.specs.Policies.{Policy, Proper, Follows, Passed, cost, share}
use Rattle.planning.specs.declared.Advice.{Advice}
use Rattle.planning.specs.declared.Advice.TheVariants.{NotReached}
use Rattle.planning.specs.declared.Call.{Call}

-- However one acts, over n steps it costs at least the lower figure, the share still under way at the price.
abbrev pub NoPolicyBeatsTheLowerFigure : Process → Bounds → Type 0
NoPolicyBeatsTheLowerFigure p x = (π : Policy) → Proper p π → (n : ℕ) → x.lower p.start * p.total ^ n ≤ cost p π n [] p.start + p.price * share p π n [] p.start

-- Following the advice never costs more than the upper figure.
abbrev pub AdviceCostsAtMostTheUpperFigure : Process → Bounds → Type 0
AdviceCostsAtMostTheUpperFigure p x = (π : Policy) → Follows down p x π → (n : ℕ) → cost p π n [] p.start ≤ x.upper p.start * p.total ^ n

-- Following the advice never comes to a state that is said not to be reached.
abbrev pub AdviceStaysWhereItAdvises : Process → Bounds → Type 0
AdviceStaysWhereItAdvises p x = (π : Policy) → Follows down p x π → (path : List ℕ) (s : ℕ) → Passed p π path s → Advised down p x.expanded x.lower x.upper s NotReached → ⊥

-- Budgets that add up to enough have finished the plan.
abbrev pub EnoughWorkFinishes : Valuation → Valuation → Process → List Call → Bounds → Type 0
EnoughWorkFinishes V W p cs x = p.states * (2 * p.price + 1) ≤ granted cs → Finished V W p x

-- No state has two advices.
abbrev pub AdviceIsOne : Process → Bounds → Type 0
AdviceIsOne p x = (s : ℕ) (c d : Advice) → Advised down p x.expanded x.lower x.upper s c → Advised down p x.expanded x.lower x.upper s d → c ≡ d

-- There is a policy that follows the advice.
abbrev pub AdviceCanBeFollowed : Process → Bounds → Type 0
AdviceCanBeFollowed p x = (π : Policy) × Proper p π × Follows down p x π

pub record Promises (p : Process) (cs : List Call) (x : Bounds) : Type 0 where
  pub no_policy_beats_the_lower_figure : NoPolicyBeatsTheLowerFigure p x
  pub advice_is_one : AdviceIsOne p x
  pub advice_can_be_followed : AdviceCanBeFollowed p x
  pub advice_costs_at_most_the_upper_figure : Finished down up p x → AdviceCostsAtMostTheUpperFigure p x
  pub advice_stays_where_it_advises : Finished down up p x → AdviceStaysWhereItAdvises p x
  pub enough_work_finishes : EnoughWorkFinishes down up p cs x
  pub whole_model_answer_exists : WholeModel down up p
  pub finished_is_the_whole_model_answer : Finished down up p x → (whole : WholeModel down up p) → AnswersFor down up p whole x

-- What is known of a plan after calls, the latest first: how its bounds came about, and what that promises.
pub record Kept (p : Process) (cs : List Call) (x : Bounds) : Type 0 where
  pub reached : Reached down up p cs x
  pub promises : Promises p cs x

abbrev pub PromisesKept : Type 0
PromisesKept = (p : Process) → InOrder p → (cs : List Call) (x : Bounds) → Reached down up p cs x → Promises p cs x
