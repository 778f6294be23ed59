use Rattle.std.proofs.lemmas.Result.{MatchResult-weaker}
use Rattle.faults.specs.declared.Cause.TheVariants.{Weights, Consistency}
use Rattle.rcm.specs.Format.{version_1}
use Rattle.rcm.proofs.Order.{fault_of, passed_on, all_passed}
use Rattle.checks.proofs.Passing.{after_weights, after_consistency}
use Rattle.checks.proofs.filled.FilledFile.check_rules.Goals as goal

pub returns-in_err-check_weights : goal.returns-in_err-check_weights
returns-in_err-check_weights c =
    passed_on version_1 _ _ _ Weights _ c.from_residual.ensures.1 c.args.self.now.passed c.in_err-check_weights.ensures

pub returns : goal.returns
returns c =
    let passed-10 = after_weights version_1 _ c.args.self.now.passed c.in_ok-check_weights.ensures in
    MatchResult-weaker c.check_consistency.result c.check_consistency.ensures
    (λ _ holds. all_passed version_1 _ (after_consistency version_1 _ passed-10 holds))
    (λ f first. fault_of version_1 _ Consistency f passed-10 first)
