-- The choice among a state's actions. Assumes nothing.
use Rattle.std.specs.Prelude.{◌≡◌, ℕ, ◌<◌, length, Option, MatchOption}
use Rattle.planning.specs.Plan.{backup, best, Worth}
use Rattle.process.specs.Process.{Process}
use Rattle.process.specs.Valuation.{Valuation}
use Rattle.search.specs.declared.choice.Pick.{Pick}

-- the best action of a state that is not written off, with its value, which is what a lower backup gives
pub record Best (V : Valuation) (p : Process) (f : ℕ → ℕ) (s : ℕ) (pick : Pick) : Type 0 where
  pub worth : Worth V p f s
  pub within : pick.action < length (p.actions s)
  pub action_is : pick.action ≡ best V p f s
  pub value_is : pick.value ≡ backup V p f s

-- the best action, or none where the state is written off
abbrev pub Chosen : Valuation → Process → (ℕ → ℕ) → ℕ → Option Pick → Type 0
Chosen V p f s chosen = MatchOption chosen (backup V p f s ≡ p.price) (Best V p f s)
