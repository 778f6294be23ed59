-- Each turn adds the weight of the next outcome times the figure of its state; both stand within their sections.
use Rattle.std.proofs.Common.{◌≡◌, ℕ, ◌+◌, ◌*◌, ◌<◌, ◌≤◌, List, sym, ap, ◌∙◌, ap₂, mul-le-mul, arith}
use Rattle.rcm.specs.declared.records.OutcomeRecord.{OutcomeRecord}
use Rattle.rcm.specs.Format.{version_1}
use Rattle.rcm.specs.Layout.{states, outcomes, outcome, outcome_told}
use Rattle.rcm.specs.Checks.{Target, Weight}
use Rattle.rcm.specs.Laws.Runs.{weighted_none, weighted_more}
use Rattle.rcm.specs.Laws.Told.{outcome_here}
use Rattle.checks.specs.Filling.{Filled}
use Rattle.checks.specs.Laws.Sound.{passed_filled}
use Rattle.checks.proofs.filled.FilledFile.weighted.Goals as goal

-- an outcome that is read is that of the file, which keeps its limits
record Read (b : List ℕ) (o : ℕ) (r : OutcomeRecord) : Type 0 where
  pub state_is : r.state ≡ (outcome version_1 b o).0
  pub weight_is : r.weight ≡ (outcome version_1 b o).1
  pub state_known : r.state < states b
  pub weight_low : r.weight ≤ 1000

read : (b : List ℕ) → Filled version_1 b → (o : ℕ) → o < outcomes b → (r : OutcomeRecord) → r ≡ outcome_told version_1 b o → Read b o r
read b filled o known r e =
    let here = e ∙ outcome_here version_1 b o known in
    let state = ap (λ (x : OutcomeRecord). x.state) here in
    let weight = ap (λ (x : OutcomeRecord). x.weight) here in
    record {
      state_is = state;
      weight_is = weight;
      state_known = omega (arith, state, filled.outcomes_hold o known Target);
      weight_low = omega (arith, weight, filled.outcomes_hold o known Weight);
    }

small : (w n : ℕ) → w ≤ 1000 → n ≤ 4294967295 → w * n ≤ 4294967295000
small w n low fits = mul-le-mul {n₂ = 1000} {m₂ = 4294967295} low fits

pub loop-k-init : goal.loop-k-init
loop-k-init g c = ((λ f gives. sym (weighted_none _ _ _)), omega arith)

pub overflow_add-sum : goal.overflow_add-sum
overflow_add-sum g c =
    let next = read _ (passed_filled version_1 _ c.args.self.now.passed) (c.from-first.result + c.loop-k.k) (omega arith) _ c.outcome-outcome.ensures in
    omega (arith, small c.from-in-loop-k.result c.from-in-loop-k-2.result (omega (arith, next.weight_low)) (omega arith))

pub loop-k-preserved : goal.loop-k-preserved
loop-k-preserved g c =
    let b = c.args.self.now.file.bytes.now in
    let o = c.from-first.result + c.loop-k.k in
    let next = read b (passed_filled version_1 b c.args.self.now.passed) o (omega arith) _ c.outcome-outcome.ensures in (
      (λ f gives.
          let figure : c.from-in-loop-k-2.result ≡ f (outcome version_1 b o).0 =
          c.from-in-loop-k-2.ensures ∙ gives _ _ (omega (arith, next.state_known)) c.figure-figure.ensures ∙ ap f (c.from.ensures ∙ next.state_is) in
          omega (
            arith,
            weighted_more (outcome version_1 b) f c.from-first.result c.loop-k.k,
            ap₂ (λ (x y : ℕ). x * y) (c.from-in-loop-k.ensures ∙ next.weight_is) figure,
            c.loop-k.invariant.0 f gives,
          )),
      omega (arith, small c.from-in-loop-k.result c.from-in-loop-k-2.result (omega (arith, next.weight_low)) (omega arith)),
    )
