-- What a policy costs over n steps, and the share still under way, each times the total to the n. Assumes nothing.
use Rattle.std.specs.Prelude.{◌≡◌, ℕ, zero, suc, ◌+◌, ◌*◌, ◌^◌, ◌<◌, false, cond, List, [], ◌∷◌, ◌++◌, length}
use Rattle.process.specs.Process.{Process, action_at, outcome_at, weighted}
use Rattle.process.specs.Valuation.{Valuation}
use Rattle.planning.specs.Plan.{Advised}
use Rattle.planning.specs.declared.Advice.TheVariants.{Act, WriteOff}
use Rattle.planning.specs.Steps.{Bounds}

pub data Choice : Type 0 where
  act : ℕ → Choice
  write_off : Choice

-- a policy chooses by all the states passed, from the start to the present one
abbrev pub Policy : Type 0
Policy = List ℕ → Choice

abbrev pub Has : Process → ℕ → Choice → Type 0
Has p s (act a) = a < length (p.actions s)
Has p s write_off = Unit {0}

-- at every open state the policy names an action of the state, or a write-off
abbrev pub Proper : Process → Policy → Type 0
Proper p π = (path : List ℕ) (s : ℕ) → s < p.states → p.terminal s ≡ false → Has p s (π (path ++ (s ∷ [])))

abbrev pub cost_of : Process → ℕ → (ℕ → ℕ) → ℕ → Choice → ℕ
cost_of p scale next s (act a) = (action_at p s a).cost * scale + weighted next (action_at p s a).outcomes
cost_of p scale next s write_off = p.price * scale

abbrev pub share_of : Process → (ℕ → ℕ) → ℕ → Choice → ℕ
share_of p next s (act a) = weighted next (action_at p s a).outcomes
share_of p next s write_off = 0

abbrev pub cost : Process → Policy → ℕ → List ℕ → ℕ → ℕ
cost p π zero path s = 0
cost p π (suc n) path s = cond (p.terminal s) 0 (cost_of p (p.total ^ suc n) (cost p π n (path ++ (s ∷ []))) s (π (path ++ (s ∷ []))))

abbrev pub share : Process → Policy → ℕ → List ℕ → ℕ → ℕ
share p π zero path s = cond (p.terminal s) 0 1
share p π (suc n) path s = cond (p.terminal s) 0 (share_of p (share p π n (path ++ (s ∷ []))) s (π (path ++ (s ∷ []))))

-- the states that a policy may come to from the start, with the path before each
pub data Passed (p : Process) (π : Policy) : List ℕ → ℕ → Type 0 where
  at_start : Passed p π [] p.start
  onward : (path : List ℕ) (s a k : ℕ) → Passed p π path s → p.terminal s ≡ false → π (path ++ (s ∷ [])) ≡ act a → k < length (action_at p s a).outcomes → Passed p π (path ++ (s ∷ [])) (outcome_at (action_at p s a) k).0

-- the policy takes the advice wherever the advice names an action or a write-off
pub record Follows (V : Valuation) (p : Process) (x : Bounds) (π : Policy) : Type 0 where
  pub acts : (path : List ℕ) (s a : ℕ) → Advised V p x.expanded x.lower x.upper s (Act a) → π (path ++ (s ∷ [])) ≡ act a
  pub writes_off : (path : List ℕ) (s : ℕ) → Advised V p x.expanded x.lower x.upper s WriteOff → π (path ++ (s ∷ [])) ≡ write_off
