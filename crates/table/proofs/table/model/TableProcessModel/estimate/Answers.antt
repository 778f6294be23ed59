use Rattle.std.proofs.Common.{sym, ap, ◌∙◌}
use Rattle.rcm.specs.declared.records.StateRecord.{StateRecord}
use Rattle.rcm.specs.Format.{version_1}
use Rattle.table.specs.Held.{held}
use Rattle.table.specs.Laws.Telling.{estimate_told}
use Rattle.table.proofs.table.model.TableProcessModel.estimate.Goals as goal

pub returns : goal.returns
returns c = ap (λ (r : StateRecord). r.estimate) c.state.ensures ∙ sym (estimate_told version_1 (held c.args.self.now.file) c.args.s)
