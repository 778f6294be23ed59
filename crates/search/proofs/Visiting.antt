-- Where a state of the plan leads. Assumes nothing.
use Rattle.std.proofs.Common.{◌≡◌, ℕ, true, false, sym}
use Rattle.process.specs.Process.{Process, action_at}
use Rattle.process.specs.Valuation.{Valuation}
use Rattle.planning.specs.Steps.{Bounds}
use Rattle.search.specs.Choosing.{Best}
use Rattle.search.specs.declared.choice.Pick.{Pick}
use Rattle.search.specs.Walking.{Walk, Grown, Among, Leads}
use Rattle.search.proofs.Walking.{grown_same}

module _ (V : Valuation) (p : Process) where
  pub from_best : (x : Bounds) (t : ℕ) (pick : Pick) (w v : Walk) → Best V p x.lower t pick → p.terminal t ≡ false → x.expanded t ≡ true → Grown (Among (action_at p t pick.action).outcomes) w v → Grown (Leads V p x t) w v
  from_best x t pick w v one live is_expanded grown = grown_same _ _ w v grown
      (λ s among. record { nonterminal = live; is_expanded = is_expanded; worth = one.worth; outcome = rw (sym one.action_is) among })
      (λ s leads. rw one.action_is leads.outcome)
