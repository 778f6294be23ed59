use Rattle.std.proofs.Common.{ℕ, ◌<◌}
use Rattle.rcm.specs.Format.{version_1}
use Rattle.rcm.specs.Layout.{state_record}
use Rattle.rcm.specs.Checks.{Has, Consistent}
use Rattle.checks.proofs.filled.FilledFile.check_consistency.Given as goal

abbrev pub invariant-loop-s : goal.invariant-loop-s
invariant-loop-s l =
    (s : ℕ) → s < l.s → (a : ℕ) → Has (state_record version_1 l.self.file.bytes.now s) a → Consistent version_1 l.self.file.bytes.now s a
