-- The whole-model answer exists, and a finished search gives it: each of its tables lies both above and below the figures of the plan. Assumes nothing.
use Rattle.std.proofs.Common.{◌≡◌, ℕ, ◌≤◌, false, List, le_antisymm, arith}
use Rattle.process.specs.Process.{Process, InOrder}
use Rattle.process.specs.Valuation.{Valuation, Monotone}
use Rattle.planning.specs.Plan.{upper_backup, at_start}
use Rattle.planning.specs.declared.Call.{Call}
use Rattle.planning.specs.Steps.{Bounds, Planned, Finished, Reached}
use Rattle.planning.specs.Answer.{UpperTable, LeastUpperTable, WholeModel, AnswersFor}
use Rattle.planning.proofs.Raising.{RaisedUpper, raised_terminal}
use Rattle.planning.proofs.RaisedBounds.{reached_raised}
use Rattle.planning.proofs.LeastTable.{least_lower_table, upper_table_exists, upper_below_table}
use Rattle.planning.proofs.SamePlan.{SamePlan, same_plan, same_advice, upper_backup_same}

pub whole_model : (V W : Valuation) → Monotone V → Monotone W → (p : Process) → InOrder p → WholeModel V W p
whole_model V W mono_v mono_w p ok =
    let lower = least_lower_table V mono_v p ok in
    let upper = upper_table_exists V W mono_w p ok lower.0 in
    record { lower_table = lower.0; upper_table = upper.0; least_lower = lower.2; least_upper = upper.1 }

-- over a table that plans the same
module _ (V W : Valuation) (mono : Monotone W) (p : Process) (x : Bounds) (finished : Finished V W p x) (made : RaisedUpper V W p x.lower x.upper) (t : ℕ → ℕ) (same : SamePlan V p x t) where
  upper_backups : (v : ℕ → ℕ) (s : ℕ) → Planned V p x s → p.terminal s ≡ false → upper_backup V W p x.lower v s ≡ upper_backup V W p t v s
  upper_backups v s planned live = upper_backup_same V W p x.lower t v s (same.agree s planned live)

  upper_is_table : UpperTable V W p t x.upper
  upper_is_table =
      record {
        terminal = λ s _. raised_terminal made s;
        backed_up = λ s whole live. let planned = (same.plan s).1 whole in
            omega (arith, upper_backups x.upper s planned live, finished.backed_up s planned live);
      }

  upper_below : (v : ℕ → ℕ) → UpperTable V W p t v → (s : ℕ) → Planned V p x s → x.upper s ≤ v s
  upper_below v table =
      upper_below_table V W mono p x.expanded x.lower finished.settled.expanded made v
      (λ s planned live. omega (arith, upper_backups v s planned live, table.backed_up s ((same.plan s).0 planned) live))

  upper_is_least : (u : ℕ → ℕ) → LeastUpperTable V W p t u → (s : ℕ) → Planned V p x s → x.upper s ≡ u s
  upper_is_least u least s planned = le_antisymm (upper_below u least.table s planned) (least.smallest x.upper upper_is_table s ((same.plan s).0 planned))

pub finished_answers_for : (V W : Valuation) → Monotone V → Monotone W → (p : Process) → InOrder p → {cs : List Call} {x : Bounds} → Reached V W p cs x → Finished V W p x → (whole : WholeModel V W p) → AnswersFor V W p whole x
finished_answers_for V W mono_v mono_w p ok {cs} {x} reached finished whole =
    let made = reached_raised V W p reached in
    let t = whole.lower_table in
    let u = whole.upper_table in
    let same = same_plan V mono_v p ok x finished.settled made.lower t whole.least_lower in
    let level = upper_is_least V W mono_w p x finished made.upper t same u whole.least_upper in
    record {
      lower_figure = same.figure p.start at_start;
      upper_figure = level p.start at_start;
      advice = λ s _. same_advice V p x t u same level s;
    }
