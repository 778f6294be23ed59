use Rattle.std.proofs.Common.{sym, ap, ◌∙◌}
use Rattle.rcm.specs.declared.records.Head.{Head}
use Rattle.rcm.specs.Format.{version_1}
use Rattle.table.specs.Laws.Telling.{price_told}
use Rattle.table.specs.Held.{held}
use Rattle.table.proofs.table.model.TableProcessModel.price.Goals as goal

pub returns : goal.returns
returns c = ap (λ (h : Head). h.price) c.head.ensures ∙ sym (price_told version_1 (held c.args.self.now.file))
