use Rattle.std.proofs.Common.{length, sym, ap, ◌∙◌}
use Rattle.rcm.specs.declared.records.StateRecord.{StateRecord}
use Rattle.rcm.specs.Format.{version_1}
use Rattle.rcm.specs.Layout.{state_told, action}
use Rattle.rcm.specs.Laws.Runs.{run_length}
use Rattle.table.specs.Laws.Telling.{actions_told}
use Rattle.table.specs.Held.{held}
use Rattle.table.proofs.table.model.TableProcessModel.actions.Goals as goal

pub returns : goal.returns
returns c =
    let b = (held c.args.self.now.file) in
    let s = c.args.s in
    c.from.ensures
    ∙ ap (λ (r : StateRecord). r.count) c.state.ensures
    ∙ sym (run_length (action version_1 b) (state_told version_1 b s).first (state_told version_1 b s).count)
    ∙ ap length (sym (actions_told version_1 b s))
