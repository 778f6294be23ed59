-- The whole-model answer: the least tables that the Bellman equation bounds, over every state. Assumes nothing.
use Rattle.std.specs.Prelude.{◌≡◌, ℕ, ◌<◌, ◌≤◌, true, false, ◌↔◌}
use Rattle.process.specs.Process.{Process}
use Rattle.process.specs.Valuation.{Valuation}
use Rattle.planning.specs.Plan.{InPlan, backup, upper_backup, Advised}
use Rattle.planning.specs.declared.Advice.{Advice}
use Rattle.planning.specs.Steps.{Bounds}

pub record LowerTable (V : Valuation) (p : Process) (t : ℕ → ℕ) : Type 0 where
  pub capped : (s : ℕ) → s < p.states → t s ≤ p.price
  pub terminal : (s : ℕ) → s < p.states → p.terminal s ≡ true → t s ≡ 0
  pub estimate : (s : ℕ) → s < p.states → p.estimate s ≤ t s
  pub backed_up : (s : ℕ) → s < p.states → p.terminal s ≡ false → backup V p t s ≤ t s

pub record LeastLowerTable (V : Valuation) (p : Process) (t : ℕ → ℕ) : Type 0 where
  pub table : LowerTable V p t
  pub smallest : (u : ℕ → ℕ) → LowerTable V p u → (s : ℕ) → s < p.states → t s ≤ u s

-- the plan over a whole table, every state counted as expanded
abbrev pub InWholePlan : Valuation → Process → (ℕ → ℕ) → ℕ → Type 0
InWholePlan V p t s = InPlan V p (λ _. true) t s

pub record UpperTable (V W : Valuation) (p : Process) (t u : ℕ → ℕ) : Type 0 where
  pub terminal : (s : ℕ) → InWholePlan V p t s → p.terminal s ≡ true → u s ≡ 0
  pub backed_up : (s : ℕ) → InWholePlan V p t s → p.terminal s ≡ false → upper_backup V W p t u s ≤ u s

pub record LeastUpperTable (V W : Valuation) (p : Process) (t u : ℕ → ℕ) : Type 0 where
  pub table : UpperTable V W p t u
  pub smallest : (v : ℕ → ℕ) → UpperTable V W p t v → (s : ℕ) → InWholePlan V p t s → u s ≤ v s

-- The whole-model answer: both least tables. Each is the only one, on the states that it is about.
pub record WholeModel (V W : Valuation) (p : Process) : Type 0 where
  pub lower_table : ℕ → ℕ
  pub upper_table : ℕ → ℕ
  pub least_lower : LeastLowerTable V p lower_table
  pub least_upper : LeastUpperTable V W p lower_table upper_table

-- the bounds give the figures and the advice of the whole-model answer
pub record AnswersFor (V W : Valuation) (p : Process) (whole : WholeModel V W p) (x : Bounds) : Type 0 where
  pub lower_figure : x.lower p.start ≡ whole.lower_table p.start
  pub upper_figure : x.upper p.start ≡ whole.upper_table p.start
  pub advice : (s : ℕ) → s < p.states → (d : Advice) → Advised V p x.expanded x.lower x.upper s d ↔ Advised V p (λ _. true) whole.lower_table whole.upper_table s d
