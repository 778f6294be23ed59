-- Each check that passes adds its number to what has passed; the first that fails is the first fault of the file.
use Rattle.std.proofs.Common.{ap, subst}
use Rattle.std.proofs.lemmas.Result.{err_from_is_err_and}
use Rattle.faults.specs.declared.Cause.TheVariants.{Opening}
use Rattle.rcm.specs.declared.records.Head.{Head}
use Rattle.faults.specs.Causes.{layer}
use Rattle.rcm.specs.Format.{version_1}
use Rattle.rcm.specs.Checks.{HeaderPart, HeaderRule}
use Rattle.rcm.specs.Laws.Rules.{framed_by}
use Rattle.rcm.proofs.Order.{fault_of, after_length, after_opening, after_header, after_sections}
use Rattle.rcm.proofs.frame.open.check_frame.Goals as goal

pub returns-in_err-head : goal.returns-in_err-head
returns-in_err-head c =
    let p = err_from_is_err_and c.from_residual-in_err-head.result c.from_residual-in_err-head.ensures.1 in
    let fault = c.in_err-head.ensures in
    rw (p.1, p.2) (ap layer fault.0, fault_of version_1 _ Opening _ (after_length version_1 _ c.in_ok-check_length.ensures) fault)

pub returns : goal.returns
returns c =
    let opened = c.in_ok-head.ensures in
    let passed-3 = after_opening version_1 _ (after_length version_1 _ c.in_ok-check_length.ensures) opened.1 in
    let header = subst (λ (h : Head). (p : HeaderPart) → HeaderRule version_1 h p) opened.0 c.in_ok-check_header.ensures.1 in
    let sections = c.in_ok-check_sections.ensures in
    (opened.0, framed_by version_1 _ header sections, after_sections version_1 _ (after_header version_1 _ passed-3 header) sections)
