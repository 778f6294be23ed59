use Rattle.std.proofs.Common.{rules}
use Rattle.rcm.specs.Format.{version_1}
use Rattle.rcm.specs.Layout.{state_told}
use Rattle.table.specs.Laws.Holding.{told_of_held}
use Rattle.table.specs.Laws.Nothing.{none_state}
use Rattle.table.proofs.table.Table.state.Goals as goal

pub returns : goal.returns
returns c = told_of_held (λ b. state_told version_1 b c.args.s) c.args.self.now.file _ _ (none_state c.args.s) (search rules)
