use Rattle.std.proofs.Common.{sym, ap, ◌∙◌}
use Rattle.rcm.specs.declared.records.Head.{Head}
use Rattle.rcm.specs.Format.{version_1}
use Rattle.table.specs.Laws.Telling.{start_told}
use Rattle.table.specs.Held.{held}
use Rattle.table.proofs.table.model.TableProcessModel.start.Goals as goal

pub returns : goal.returns
returns c = c.from.ensures ∙ ap (λ (h : Head). h.start) c.head.ensures ∙ sym (start_told version_1 (held c.args.self.now.file))
