-- A decision process: states, actions with a cost, and outcomes with whole weights. Assumes nothing.
use Rattle.std.specs.Prelude.{◌≡◌, List, [], ◌∷◌, Bool, true, false, ℕ, ◌+◌, ◌*◌, ◌<◌, ◌≤◌, length, get_or}

-- An action costs, and leads to one of its outcomes. An outcome is a state and its weight.
pub record Action : Type 0 where
  pub cost : ℕ
  pub outcomes : List (ℕ × ℕ)

-- A state is terminal or open. The price is that of a write-off; an estimate is a lower guess of what the rest costs.
pub record Process : Type 0 where
  pub states : ℕ
  pub start : ℕ
  pub price : ℕ
  pub total : ℕ
  pub terminal : ℕ → Bool
  pub estimate : ℕ → ℕ
  pub actions : ℕ → List Action

-- what is told of a process that is out of order
abbrev pub void : Process
void = record { states = 0; start = 0; price = 0; total = 0; terminal = λ _. false; estimate = λ _. 0; actions = λ _. [] }

-- what is told of an action that the state does not have
abbrev pub no_action : Action
no_action = record { cost = 0; outcomes = [] }

abbrev pub action_at : Process → ℕ → ℕ → Action
action_at p s a = get_or (p.actions s) a no_action

-- an outcome of an action, or a pair of zeros where the action has no such outcome
abbrev pub outcome_at : Action → ℕ → (ℕ × ℕ)
outcome_at a k = get_or a.outcomes k (0, 0)

abbrev pub Each : {X : Type 0} → (X → Type 0) → List X → Type 0
Each P [] = Unit {0}
Each P (x ∷ xs) = P x × Each P xs

abbrev pub weights : List (ℕ × ℕ) → ℕ
weights [] = 0
weights (o ∷ os) = o.1 + weights os

-- the sum over the outcomes of weight times figure
abbrev pub weighted : (ℕ → ℕ) → List (ℕ × ℕ) → ℕ
weighted f [] = 0
weighted f (o ∷ os) = o.1 * f o.0 + weighted f os

-- Rule 3: a terminal state has estimate 0 and no actions.
pub record TerminalInOrder (p : Process) (s : ℕ) : Type 0 where
  pub estimate_zero : p.estimate s ≡ 0
  pub no_actions : p.actions s ≡ []

-- What an action owes by the rules 4 (its cost), 5 (its outcomes) and 6 (the estimate is consistent with it).
pub record ActionInOrder (p : Process) (s : ℕ) (a : Action) : Type 0 where
  pub cost_low : 1 ≤ a.cost
  pub cost_high : a.cost ≤ 1000000
  pub some_outcome : 1 ≤ length a.outcomes
  pub outcomes_known : Each (λ o. (o.0 < p.states) × (1 ≤ o.1)) a.outcomes
  pub weights_add_up : weights a.outcomes ≡ p.total
  pub consistent : p.estimate s * p.total ≤ a.cost * p.total + weighted p.estimate a.outcomes

-- Rule 4: an open state has 0 to 64 actions.
pub record OpenInOrder (p : Process) (s : ℕ) : Type 0 where
  pub actions_few : length (p.actions s) ≤ 64
  pub actions_in_order : Each (ActionInOrder p s) (p.actions s)

-- The six rules.
pub record InOrder (p : Process) : Type 0 where
  -- rule 1
  pub some_state : 1 ≤ p.states
  pub states_few : p.states ≤ 1024
  pub start_known : p.start < p.states
  -- rule 2
  pub price_low : 1 ≤ p.price
  pub price_high : p.price ≤ 1000000000
  pub total_low : 1 ≤ p.total
  pub total_high : p.total ≤ 1000000
  -- rules 3 to 6
  pub terminals : (s : ℕ) → s < p.states → p.terminal s ≡ true → TerminalInOrder p s
  pub opens : (s : ℕ) → s < p.states → p.terminal s ≡ false → OpenInOrder p s
  pub estimate_capped : (s : ℕ) → s < p.states → p.estimate s ≤ p.price

-- What a model tells: a process in order, or nothing. Of a state that it lacks it tells nothing either.
pub record Told (p : Process) (ordered : Bool) : Type 0 where
  pub in_order : ordered ≡ true → InOrder p
  pub nothing : ordered ≡ false → p ≡ void
  pub outside : (s : ℕ) → p.states ≤ s → (p.terminal s ≡ false) × (p.estimate s ≡ 0) × (p.actions s ≡ [])
