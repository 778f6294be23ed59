use Rattle.std.proofs.Common.{length, sym, ap, ◌∙◌}
use Rattle.process.specs.Process.{Action}
use Rattle.rcm.specs.Format.{version_1}
use Rattle.rcm.specs.Layout.{outcome}
use Rattle.rcm.specs.Laws.Runs.{run_length}
use Rattle.table.specs.Held.{held}
use Rattle.table.proofs.table.model.TableProcessModel.outcomes.Goals as goal

pub returns : goal.returns
returns c =
    let b = (held c.args.self.now.file) in
    c.from.ensures
    ∙ sym (run_length (outcome version_1 b) c.action.result.first c.action.result.count)
    ∙ ap (λ (x : Action). length x.outcomes) (sym c.action.ensures.means)
