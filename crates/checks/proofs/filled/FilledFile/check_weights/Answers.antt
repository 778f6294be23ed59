-- The first action whose weights are wrong is the first fault of its cause. The sum of the weights is that of the figure 1.
use Rattle.std.proofs.Common.{◌≡◌, ℕ, ◌<◌, List, [], ◌∷◌, sym, refl, ap, ◌∙◌, arith, rules, below_more}
use Rattle.process.specs.Process.{weights, weighted}
use Rattle.rcm.specs.declared.records.ActionRecord.{ActionRecord}
use Rattle.rcm.specs.declared.records.Head.{Head}
use Rattle.rcm.specs.Format.{version_1}
use Rattle.rcm.specs.Layout.{head_of, actions, action_byte, action_record, action_told, outcomes_of}
use Rattle.rcm.specs.Checks.{whole, whole_offset, WeightsRule}
use Rattle.rcm.specs.Laws.Told.{action_here}
use Rattle.checks.specs.Laws.Inside.{outcomes_inside}
use Rattle.checks.specs.Laws.Sound.{passed_filled}
use Rattle.checks.proofs.Sections.{first_broken}
use Rattle.checks.proofs.filled.FilledFile.check_weights.Goals as goal

-- an action below the header's number is one of the section
known : (b : List ℕ) (h : Head) (a n : ℕ) → h ≡ head_of b → n ≡ h.actions → a < n → a < actions b
known b h a n e e' lt = omega (arith, ap (λ (x : Head). x.actions) e)

weighted_by_one : (os : List (ℕ × ℕ)) → weighted (λ _. 1) os ≡ weights os
weighted_by_one [] = refl
weighted_by_one (o ∷ os) = omega (arith, weighted_by_one os)

-- what is read of an action, and the sum of its weights
module _ (b : List ℕ) (a : ℕ) (here : a < actions b) (r : ActionRecord) (e : r ≡ action_told version_1 b a) where
  record_is : r ≡ action_record version_1 b a
  record_is = e ∙ action_here version_1 b a here

  sum_is : (n : ℕ) → n ≡ weighted (λ _. 1) (outcomes_of version_1 b r) → n ≡ weights (outcomes_of version_1 b (action_record version_1 b a))
  sum_is n told = told ∙ weighted_by_one _ ∙ ap (λ (x : ActionRecord). weights (outcomes_of version_1 b x)) record_is

pub weighted-requires-clause-inside : goal.weighted-requires-clause-inside
weighted-requires-clause-inside c =
    let b = c.args.self.now.file.bytes.now in
    let here = known b _ c.loop-a.a _ c.head.ensures c.from-a-end.ensures c.loop-a-test.true in
    simp (record_is b _ here _ c.action-action.ensures) (outcomes_inside version_1 b (passed_filled version_1 b c.args.self.now.passed) c.loop-a.a here)

pub returns-then-weighted-from : goal.returns-then-weighted-from
returns-then-weighted-from c =
    let b = c.args.self.now.file.bytes.now in
    let a = c.loop-a.a in
    let here = known b _ a _ c.head.ensures c.from-a-end.ensures c.loop-a-test.true in
    let sum = sum_is b a here _ c.action-action.ensures _ (c.weighted.ensures.value (λ _. 1) (search rules)) in
    let first = first_broken (actions b) (action_byte version_1 b) whole_offset (WeightsRule version_1 b) (λ r r' p h. omega arith)
    a (action_byte version_1 b a) here c.loop-a.invariant
    (record { part = whole; here = omega arith; broken = λ rule. c.if-weighted-from.true (sum ∙ rule ∙ sym c.from.ensures); before = λ p h. absurd (omega arith) }) in
    let byte = ap (λ (r : ActionRecord). r.byte) (record_is b a here _ c.action-action.ensures) in
    simp (c.fault.ensures, byte) (refl, record { fails = first.0; none_before = first.1 })

pub loop-a-preserved : goal.loop-a-preserved
loop-a-preserved c =
    let b = c.args.self.now.file.bytes.now in
    let here = known b _ c.loop-a.a _ c.head.ensures c.from-a-end.ensures c.loop-a-test.true in
    let sum = sum_is b _ here _ c.action-action.ensures _ (c.weighted.ensures.value (λ _. 1) (search rules)) in
    below_more _ _ c.loop-a.invariant (λ p. sym sum ∙ c.if-weighted-from.false ∙ c.from.ensures)

pub returns : goal.returns
returns c = λ r h p. c.loop-a.invariant r (omega (arith, ap (λ (h : Head). h.actions) c.head.ensures)) p
