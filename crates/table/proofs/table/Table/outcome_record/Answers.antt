use Rattle.std.proofs.Common.{rules}
use Rattle.rcm.specs.Format.{version_1}
use Rattle.rcm.specs.Layout.{outcome_told}
use Rattle.table.specs.Laws.Holding.{told_of_held}
use Rattle.table.specs.Laws.Nothing.{none_outcome}
use Rattle.table.proofs.table.Table.outcome_record.Goals as goal

pub returns : goal.returns
returns c = told_of_held (λ b. outcome_told version_1 b c.args.i) c.args.self.now.file _ _ (none_outcome c.args.i) (search rules)
