use Rattle.std.proofs.Common.{◌∙◌}
use Rattle.rcm.specs.Format.{version_1}
use Rattle.rcm.specs.Laws.Told.{action_here}
use Rattle.checks.specs.Laws.Inside.{outcomes_inside}
use Rattle.checks.specs.Laws.Sound.{passed_filled}
use Rattle.checks.proofs.filled.FilledFile.check_action.Goals as goal

pub weighted-estimates-requires-clause-inside : goal.weighted-estimates-requires-clause-inside
weighted-estimates-requires-clause-inside c =
    simp (c.action-action.ensures ∙ action_here version_1 _ c.args.a c.requires.action)
    (outcomes_inside version_1 _ (passed_filled version_1 _ c.args.self.now.passed) c.args.a c.requires.action)
