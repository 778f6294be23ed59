use Rattle.std.proofs.Common.{rules}
use Rattle.rcm.specs.Layout.{head_of}
use Rattle.table.specs.Laws.Holding.{told_of_held}
use Rattle.table.specs.Laws.Nothing.{no_head}
use Rattle.table.proofs.table.Table.head.Goals as goal

pub returns : goal.returns
returns c = told_of_held head_of c.args.self.now.file _ _ no_head (search rules)
