-- Each check that passes adds its number to what has passed; the first that fails is the first fault of the file.
use Rattle.faults.specs.declared.Cause.TheVariants.{StateField, ActionField, OutcomeField, Counts}
use Rattle.rcm.specs.Format.{version_1}
use Rattle.rcm.proofs.Order.{passed_on}
use Rattle.checks.proofs.Passing.{after_states, after_two, after_three}
use Rattle.checks.proofs.filled.FilledFile.check.Goals as goal

pub returns-in_err-of_states : goal.returns-in_err-of_states
returns-in_err-of_states c =
    passed_on version_1 _ _ _ StateField _ c.from_residual.ensures.1 c.args.file.passed c.in_err-of_states.ensures

pub returns-in_err-of_actions : goal.returns-in_err-of_actions
returns-in_err-of_actions c =
    let passed = after_states version_1 _ c.args.file.passed c.in_ok-of_states.ensures.1 in
    passed_on version_1 _ _ _ ActionField _ c.from_residual-in_err-of_actions.ensures.1 passed c.in_err-of_actions.ensures

pub returns-in_err-check_section : goal.returns-in_err-check_section
returns-in_err-check_section c =
    let passed = after_two version_1 _ c.args.file.passed c.in_ok-of_states.ensures.1 c.in_ok-of_actions.ensures.1 in
    passed_on version_1 _ _ _ OutcomeField _ c.from_residual-in_err-check_section.ensures.1 passed c.in_err-check_section.ensures

pub returns-in_err-check_counts : goal.returns-in_err-check_counts
returns-in_err-check_counts c =
    let passed = after_three version_1 _ c.args.file.passed c.in_ok-of_states.ensures.1 c.in_ok-of_actions.ensures.1 c.in_ok-check_section.ensures.1 in
    passed_on version_1 _ _ _ Counts _ c.from_residual-in_err-check_counts.ensures.1 passed c.in_err-check_counts.ensures
