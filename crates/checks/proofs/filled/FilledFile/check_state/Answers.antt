use Rattle.std.proofs.Common.{ap, ◌∙◌, arith}
use Rattle.rcm.specs.declared.records.StateRecord.{StateRecord}
use Rattle.rcm.specs.Format.{version_1}
use Rattle.rcm.specs.Laws.Told.{state_here}
use Rattle.checks.specs.Laws.Inside.{actions_inside}
use Rattle.checks.specs.Laws.Sound.{passed_filled}
use Rattle.checks.proofs.filled.FilledFile.check_state.Goals as goal

pub check_action-requires-clause-action : goal.check_action-requires-clause-action
check_action-requires-clause-action c =
    let state = c.state-state.ensures ∙ state_here version_1 _ c.args.s c.requires in
    omega (
      arith,
      actions_inside version_1 _ (passed_filled version_1 _ c.args.self.now.passed) c.args.s c.requires,
      ap (λ (r : StateRecord). r.first) state,
      ap (λ (r : StateRecord). r.count) state,
    )
