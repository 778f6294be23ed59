-- The step that a state of the plan wants, and what holds of the plan where none of its states wants one. Assumes nothing.
use Rattle.std.proofs.Common.{◌≡◌, ℕ, Option, Some, None, MatchOption, refl}
use Rattle.process.specs.Process.{Process}
use Rattle.process.specs.Valuation.{Valuation}
use Rattle.planning.specs.Steps.{Bounds, Planned, Settled}
use Rattle.search.specs.Stepping.{Next, Expands, RaisesLower, RaisesUpper}
use Rattle.search.specs.declared.step.Step.{Step}

pub by_result : (r : Option Step) {P : Type 0} {Q : Step → Type 0} → (r ≡ None → P) → ((step : Step) → r ≡ Some step → Q step) → MatchOption r P Q
by_result None none some = none refl
by_result (Some step) none some = some step refl

module _ (V W : Valuation) (p : Process) (x : Bounds) where
  module _ (s : ℕ) (planned : Planned V p x s) (step : Step) where
    pub next_expansion : Expands p x s (Some step) → Next V W p x step
    next_expansion wanted = rw wanted.0 (record { planned = planned; nonterminal = wanted.1; unexpanded = wanted.2 })

    pub next_lower_backup : ((t : ℕ) → Planned V p x t → Expands p x t None) → RaisesLower V p x s (Some step) → Next V W p x step
    next_lower_backup expanded wanted = rw wanted.0 (record { planned = planned; nonterminal = wanted.1; expanded = expanded s planned wanted.1; raises = wanted.2 }, refl)

    pub next_upper_backup : Settled V p x → RaisesUpper V W p x s (Some step) → Next V W p x step
    next_upper_backup settled wanted = rw wanted.0 (record { settled = settled; planned = planned; nonterminal = wanted.1; raises = wanted.2 }, refl)
