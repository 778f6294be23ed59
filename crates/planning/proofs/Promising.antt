-- The promises, put together. Assumes nothing.
use Rattle.std.proofs.Common.{List}
use Rattle.process.specs.Process.{Process, InOrder}
use Rattle.process.specs.Valuation.{down, up}
use Rattle.planning.specs.declared.Call.{Call}
use Rattle.planning.specs.Steps.{Bounds, Reached}
use Rattle.planning.specs.Promises.{PromisesKept, Kept}
use Rattle.process.specs.Rounding.{down_monotone, up_monotone}
use Rattle.planning.proofs.EveryPolicy.{no_policy_beats_the_lower_figure}
use Rattle.planning.proofs.OneAdvice.{advised_once}
use Rattle.planning.proofs.FollowedAdvice.{advice_can_be_followed}
use Rattle.planning.proofs.WholeModel.{whole_model, finished_answers_for}
use Rattle.planning.proofs.Finishing.{enough_work_finishes}
use Rattle.planning.proofs.AdviceCost.{advice_costs_at_most_the_upper_figure, advice_stays_where_it_advises}

pub promises_kept : PromisesKept
promises_kept p ok cs x reached =
    record {
      no_policy_beats_the_lower_figure = no_policy_beats_the_lower_figure p ok reached;
      advice_is_one = λ s c d. advised_once;
      advice_can_be_followed = advice_can_be_followed down p x;
      advice_costs_at_most_the_upper_figure = advice_costs_at_most_the_upper_figure p ok reached;
      advice_stays_where_it_advises = advice_stays_where_it_advises p ok reached;
      enough_work_finishes = enough_work_finishes down up p ok reached;
      whole_model_answer_exists = whole_model down up down_monotone up_monotone p ok;
      finished_is_the_whole_model_answer = finished_answers_for down up down_monotone up_monotone p ok reached;
    }

pub kept : (p : Process) → InOrder p → (cs : List Call) (x : Bounds) → Reached down up p cs x → Kept p cs x
kept p ok cs x reached = record { reached = reached; promises = promises_kept p ok cs x reached }
