use Rattle.std.proofs.Common.{ℕ, ◌≡◌, ◌<◌, ◌^◌}
use Rattle.process.specs.Process.{action_at}
use Rattle.search.proofs.ActionValue.{SoFar}
use Rattle.search.proofs.view.View.action_value.Given as goal

-- whatever figures the closure tells, it is these that are gathered
abbrev pub invariant-loop-k : goal.invariant-loop-k
invariant-loop-k g l = (f : ℕ → ℕ) → ((to n : ℕ) → to < 2 ^ 32 → goal.F-post g l.figure to n → n ≡ f to) → SoFar g.V.Valuing.gathered f (action_at (g.M.Model.process l.self.model.now) l.s l.a).outcomes l.k l.all
