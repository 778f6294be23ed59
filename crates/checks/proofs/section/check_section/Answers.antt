-- Each record that passes adds what it has of the next section; the first that does not is the first fault of the section.
use Rattle.std.proofs.Common.{sym, ap, arith, below_more}
use Rattle.std.proofs.lemmas.Result.{err_from_is_err_and}
use Rattle.faults.specs.Causes.{cause}
use Rattle.rcm.specs.Format.{version_1}
use Rattle.rcm.specs.Laws.Sums.{sum_none, sum_more}
use Rattle.checks.proofs.Sections.{first_fails}
use Rattle.checks.proofs.section.check_section.Goals as goal

pub loop-i-init : goal.loop-i-init
loop-i-init g c = (sym (sum_none _), omega arith, λ r h p. absurd (omega arith))

pub loop-i-preserved : goal.loop-i-preserved
loop-i-preserved g c =
    let checked = c.in_ok-before.ensures in
    (omega (arith, sum_more (g.S.Section.owned c.args.file.now.bytes.now) c.loop-i.i), omega arith, below_more _ _ c.loop-i.invariant.2 checked.1)

pub returns-in_err-before : goal.returns-in_err-before
returns-in_err-before g c =
    let b = c.args.file.now.bytes.now in
    let section = g.S.Section in
    let laws = g.met.S.Section in
    let p = err_from_is_err_and c.from_residual.result c.from_residual.ensures.1 in
    let fault = c.in_err-before.ensures in
    let first = first_fails (section.size b) (section.first_byte b) section.offset (section.rule b) version_1 b (cause section.place) (laws.fails b) (laws.apart b)
    c.loop-i.i _ (omega arith) c.loop-i.invariant.2 fault.2 in
    rw (p.1, p.2) (ap cause fault.0, rw fault.1 first)
