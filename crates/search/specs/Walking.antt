-- The walk over a plan's states, in the order in which they were found. Assumes nothing.
use Rattle.std.specs.Prelude.{◌≡◌, ℕ, ◌+◌, ◌<◌, Bool, true, false, cond, ◌⊎◌, ◌↔◌, List, [], ◌∷◌, ◌++◌, length, get_or, take, slice_index, slice_index_or}
use Rattle.std.specs.List.{Contains}
use Rattle.planning.specs.Plan.{best, Worth}
use Rattle.planning.specs.Steps.{Bounds, Planned}
use Rattle.process.specs.Process.{Process, action_at}
use Rattle.process.specs.Valuation.{Valuation}

-- the states that were found, each once, and how many of them were visited
pub record Walk : Type 0 where
  pub states : List ℕ
  pub visited : ℕ

abbrev pub unmarked : List Bool → ℕ
unmarked [] = 0
unmarked (b ∷ bs) = cond b 0 1 + unmarked bs

-- the first so many of the order are the marked states, each once
pub record Listed (marks : List Bool) (order : List ℕ) (count : ℕ) : Type 0 where
  pub full : count + unmarked marks ≡ 1024
  pub agree : (s : ℕ) → (slice_index_or marks s false ≡ true) ↔ Contains (take count order) s

-- the new states are found too, after the others, and no others are
pub record Grown (new : ℕ → Type 0) (w v : Walk) : Type 0 where
  pub more : List ℕ
  pub after : v.states ≡ w.states ++ more
  pub same_visited : v.visited ≡ w.visited
  pub only : (s : ℕ) → Contains v.states s → Contains w.states s ⊎ new s
  pub all : (s : ℕ) → new s → Contains v.states s

-- s is the first state of w that was not visited, and is visited now
pub record Visited (w v : Walk) (s : ℕ) : Type 0 where
  pub within : w.visited < length w.states
  pub few : w.visited < 1024
  pub here : slice_index w.states w.visited ≡ s
  pub same_states : v.states ≡ w.states
  pub one_more : v.visited ≡ w.visited + 1

abbrev pub Same : ℕ → ℕ → Type 0
Same s r = r ≡ s

-- s is one of the first n outcomes
pub record AmongFirst (os : List (ℕ × ℕ)) (n s : ℕ) : Type 0 where
  pub place : ℕ
  pub within : place < n
  pub there : s ≡ (get_or os place (0, 0)).0

abbrev pub Among : List (ℕ × ℕ) → ℕ → Type 0
Among os s = AmongFirst os (length os) s

-- the best action of t leads to s
pub record Leads (V : Valuation) (p : Process) (x : Bounds) (t s : ℕ) : Type 0 where
  pub nonterminal : p.terminal t ≡ false
  pub is_expanded : x.expanded t ≡ true
  pub worth : Worth V p x.lower t
  pub outcome : Among (action_at p t (best V p x.lower t)).outcomes s

-- just the plan's states were found
abbrev pub Surveyed : Valuation → Process → Bounds → List ℕ → Type 0
Surveyed V p x states = (s : ℕ) → Contains states s ↔ Planned V p x s
