use Rattle.std.proofs.Common.{ap, arith}
use Rattle.std.proofs.lemmas.Result.{err_from_is_err_and}
use Rattle.rcm.specs.declared.records.Head.{Head}
use Rattle.rcm.specs.Format.{version_1}
use Rattle.checks.proofs.Estimates.{first_consistency}
use Rattle.checks.specs.Laws.Sound.{passed_filled}
use Rattle.checks.proofs.filled.FilledFile.check_consistency.Goals as goal

pub returns-in_err-check_state : goal.returns-in_err-check_state
returns-in_err-check_state c =
    let p = err_from_is_err_and c.from_residual.result c.from_residual.ensures.1 in
    let e = c.in_err-check_state.ensures in
    rw (p.1, p.2) (e.0, first_consistency version_1 _ (passed_filled version_1 _ c.args.self.now.passed) c.loop-s.s _ _ (omega (arith, ap (λ (h : Head). h.states) c.head.ensures)) c.loop-s.invariant e.1)
