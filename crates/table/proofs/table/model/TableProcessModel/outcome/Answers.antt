use Rattle.std.proofs.Common.{◌≡◌, ℕ, ◌+◌, ◌<◌, sym, ap, ◌∙◌, arith}
use Rattle.process.specs.Process.{Action, outcome_at}
use Rattle.rcm.specs.declared.records.OutcomeRecord.{OutcomeRecord}
use Rattle.rcm.specs.Format.{version_1}
use Rattle.rcm.specs.Layout.{outcome, outcomes, outcome_record, outcome_told}
use Rattle.rcm.specs.Laws.Runs.{run_at, run_past}
use Rattle.rcm.specs.Laws.Told.{outcome_here}
use Rattle.table.specs.Held.{held}
use Rattle.table.proofs.table.model.TableProcessModel.outcome.Goals as goal

pub returns-then-k-from : goal.returns-then-k-from
returns-then-k-from c =
    let b = (held c.args.self.now.file) in
    let action = c.action-action.result in
    sym (ap (λ (x : Action). outcome_at x c.args.k) c.action-action.ensures.means
    ∙ run_past (outcome version_1 b) action.first action.count c.args.k (0, 0) (omega arith))

pub returns : goal.returns
returns c =
    let b = (held c.args.self.now.file) in
    let action = c.action-action.result in
    let k = c.args.k in
    let o = action.first + k in
    let known : o < outcomes b = omega (arith, c.action-action.ensures.inside) in
    let here : c.outcome_record-outcome.result ≡ outcome_record version_1 b o =
    c.outcome_record-outcome.ensures ∙ ap (outcome_told version_1 b) (omega arith) ∙ outcome_here version_1 b o known in
    ap (λ (n : ℕ). (n, c.outcome_record-outcome.result.weight)) c.from-3.ensures
    ∙ ap (λ (r : OutcomeRecord). (r.state, r.weight)) here
    ∙ sym (ap (λ (x : Action). outcome_at x k) c.action-action.ensures.means
    ∙ run_at (outcome version_1 b) action.first action.count k (0, 0) (omega arith))
