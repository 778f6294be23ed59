use Rattle.rcm.specs.Format.{version_1}
use Rattle.rcm.specs.Checks.{WeightsRule}
use Rattle.rcm.specs.Checking.{Holds}
use Rattle.checks.proofs.filled.FilledFile.check_weights.Given as goal

abbrev pub invariant-loop-a : goal.invariant-loop-a
invariant-loop-a l = Holds l.a (WeightsRule version_1 l.self.file.bytes.now)
