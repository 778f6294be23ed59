use Rattle.std.proofs.Common.{rules}
use Rattle.rcm.specs.Format.{version_1}
use Rattle.rcm.specs.Layout.{action_told}
use Rattle.table.specs.Laws.Holding.{told_of_held}
use Rattle.table.specs.Laws.Nothing.{none_action}
use Rattle.table.proofs.table.Table.action_record.Goals as goal

pub returns : goal.returns
returns c = told_of_held (λ b. action_told version_1 b c.args.i) c.args.self.now.file _ _ (none_action c.args.i) (search rules)
