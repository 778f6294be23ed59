use Rattle.std.proofs.Common.{◌≡◌, ◌≤◌, ◌*◌}
use Rattle.rcm.specs.Layout.{sum_below}
use Rattle.rcm.specs.Checking.{Holds}
use Rattle.checks.proofs.section.check_section.Given as goal

abbrev pub invariant-loop-i : goal.invariant-loop-i
invariant-loop-i g l =
    (l.before ≡ sum_below (g.S.Section.owned l.file.bytes.now) l.i)
    × (l.before ≤ 255 * l.i)
    × Holds l.i (g.S.Section.rule l.file.bytes.now)
