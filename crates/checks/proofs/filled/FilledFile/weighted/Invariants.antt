use Rattle.std.proofs.Common.{◌≡◌, ◌*◌, ◌≤◌, ◌<◌, ℕ}
use Rattle.process.specs.Process.{weighted}
use Rattle.rcm.specs.Format.{version_1}
use Rattle.rcm.specs.Layout.{states, run, outcome}
use Rattle.checks.proofs.filled.FilledFile.weighted.Given as goal

abbrev pub invariant-loop-k : goal.invariant-loop-k
invariant-loop-k g l =
    let b = l.self.file.bytes.now in
    ((f : ℕ → ℕ) → ((s n : ℕ) → s < states b → goal.F-post g l.figure s n → n ≡ f s) → l.sum ≡ weighted f (run (outcome version_1 b) l.first l.k))
    × (l.sum ≤ 4294967295000 * l.k)
