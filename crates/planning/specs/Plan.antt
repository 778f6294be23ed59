-- The plan that figures give: best actions, the states that they lead to, and the advice. Assumes nothing.
use Rattle.std.specs.Prelude.{◌≡◌, ℕ, suc, ◌<◌, ◌≤◌, min, Bool, true, false, cond, List, [], ◌∷◌, map, length, ◌≢◌, nat_le, nat_lt}
use Rattle.process.specs.Process.{Process, Action, action_at, outcome_at}
use Rattle.process.specs.Valuation.{Valuation, seen}
use Rattle.planning.specs.declared.Advice.{Advice}
use Rattle.planning.specs.declared.Advice.TheVariants.{Act, WriteOff, Ending, NotReached}

-- the least of some numbers and a cap
abbrev pub least : ℕ → List ℕ → ℕ
least cap [] = cap
least cap (x ∷ xs) = min x (least cap xs)

-- the place of the first of the least numbers
abbrev pub first_least : List ℕ → ℕ
first_least [] = 0
first_least (x ∷ xs) = cond (nat_le x (least x xs)) 0 (suc (first_least xs))

-- what an action is worth
abbrev pub value : Valuation → Process → (ℕ → ℕ) → Action → ℕ
value V p f a = V p.total a.cost (seen f a.outcomes)

abbrev pub values : Valuation → Process → (ℕ → ℕ) → ℕ → List ℕ
values V p f s = map (value V p f) (p.actions s)

-- what a backup of a state gives: the least value of its actions, or the price where that is smaller
abbrev pub backup : Valuation → Process → (ℕ → ℕ) → ℕ → ℕ
backup V p f s = least p.price (values V p f s)

-- the first of the actions with the least value
abbrev pub best : Valuation → Process → (ℕ → ℕ) → ℕ → ℕ
best V p f s = first_least (values V p f s)

-- the best action is worth less than the price: the state is not written off
abbrev pub Worth : Valuation → Process → (ℕ → ℕ) → ℕ → Type 0
Worth V p f s = backup V p f s < p.price

-- what an upper backup of a state gives, at the action that is best by the lower figures f
abbrev pub upper_backup : Valuation → Valuation → Process → (ℕ → ℕ) → (ℕ → ℕ) → ℕ → ℕ
upper_backup V W p f u s = cond (nat_lt (backup V p f s) p.price) (min p.price (value W p u (action_at p s (best V p f s)))) p.price

-- The states that best actions lead to from the start, through states that are expanded and not written off.
pub data InPlan (V : Valuation) (p : Process) (expanded : ℕ → Bool) (f : ℕ → ℕ) : ℕ → Type 0 where
  at_start : InPlan V p expanded f p.start
  onward : (t k : ℕ) → InPlan V p expanded f t → p.terminal t ≡ false → expanded t ≡ true → Worth V p f t → k < length (action_at p t (best V p f t)).outcomes → InPlan V p expanded f (outcome_at (action_at p t (best V p f t)) k).0

-- the advice for a state, by lower figures f and upper figures u
pub data Advised (V : Valuation) (p : Process) (expanded : ℕ → Bool) (f u : ℕ → ℕ) (s : ℕ) : Advice → Type 0 where
  at_terminal : p.terminal s ≡ true → Advised V p expanded f u s Ending
  outside : p.terminal s ≡ false → (InPlan V p expanded f s → ⊥) → Advised V p expanded f u s NotReached
  not_worth : p.terminal s ≡ false → InPlan V p expanded f s → p.price ≤ backup V p f s → Advised V p expanded f u s WriteOff
  at_price : p.terminal s ≡ false → InPlan V p expanded f s → u s ≡ p.price → Advised V p expanded f u s WriteOff
  by_best : p.terminal s ≡ false → InPlan V p expanded f s → Worth V p f s → (u s ≢ p.price) → Advised V p expanded f u s (Act (best V p f s))
