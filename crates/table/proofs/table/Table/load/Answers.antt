-- That there is one first fault is cited, since it holds of every proper format; of version 1 the check finds it alone.
use Rattle.std.proofs.Common.{ap, ◌∙◌}
use Rattle.rcm.specs.Format.{version_1}
use Rattle.rcm.specs.Layout.{told}
use Rattle.checks.proofs.Unique as unique
use Rattle.table.specs.Laws.Telling.{proper_1, sound_told}
use Rattle.table.proofs.table.Table.load.Goals as goal

pub returns : goal.returns
returns c =
    let checked = c.in_ok-check.ensures in
    record {
      told = (checked.0, checked.1, ap (told version_1) checked.1 ∙ sound_told version_1 _ checked.0);
      one_first_fault = unique.one_first_fault version_1 proper_1;
    }
