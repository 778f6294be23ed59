use Rattle.std.proofs.Common.{ℕ, ◌<◌, ◌≤◌}
use Rattle.rcm.specs.Format.{version_1}
use Rattle.rcm.specs.Layout.{state_record}
use Rattle.rcm.specs.Checks.{Consistent}
use Rattle.checks.proofs.filled.FilledFile.check_state.Given as goal

abbrev pub invariant-loop-a : goal.invariant-loop-a
invariant-loop-a l =
    (a : ℕ) → (state_record version_1 l.self.file.bytes.now l.s).first ≤ a → a < l.a → Consistent version_1 l.self.file.bytes.now l.s a
