-- The steps of the search, by what each needs and what it changes of the bounds. Assumes nothing.
use Rattle.std.specs.Prelude.{◌≡◌, ℕ, suc, ◌+◌, ◌<◌, ◌≤◌, Bool, true, false, ◌⊎◌, List, [], ◌∷◌, ◌≢◌}
use Rattle.process.specs.Process.{Process}
use Rattle.process.specs.Valuation.{Valuation}
use Rattle.planning.specs.Plan.{InPlan, backup, upper_backup}
use Rattle.planning.specs.declared.Call.{Call}
use Rattle.planning.specs.declared.Call.TheVariants.{Work, Figures, Advice}
use Rattle.planning.specs.declared.Phase.{Phase}
use Rattle.planning.specs.declared.Phase.TheVariants.{Searching, Costing, Finished as AllDone}

-- what is known of each state: whether it is expanded, and a lower and an upper figure
pub record Bounds : Type 0 where
  pub expanded : ℕ → Bool
  pub lower : ℕ → ℕ
  pub upper : ℕ → ℕ

pub record Begun (p : Process) (x : Bounds) : Type 0 where
  pub expanded : (s : ℕ) → x.expanded s ≡ false
  pub lower : (s : ℕ) → x.lower s ≡ p.estimate s
  pub upper : (s : ℕ) → x.upper s ≡ 0

abbrev pub Planned : Valuation → Process → Bounds → ℕ → Type 0
Planned V p x s = InPlan V p x.expanded x.lower s

-- Where a step can be made. Each is at an open state in the plan.

pub record CanExpand (V : Valuation) (p : Process) (x : Bounds) (s : ℕ) : Type 0 where
  pub planned : Planned V p x s
  pub nonterminal : p.terminal s ≡ false
  pub unexpanded : x.expanded s ≡ false

pub record CanRaiseLower (V : Valuation) (p : Process) (x : Bounds) (s : ℕ) : Type 0 where
  pub planned : Planned V p x s
  pub nonterminal : p.terminal s ≡ false
  pub expanded : x.expanded s ≡ true
  pub raises : x.lower s < backup V p x.lower s

-- no expansion and no lower backup is left
pub record Settled (V : Valuation) (p : Process) (x : Bounds) : Type 0 where
  pub expanded : (s : ℕ) → Planned V p x s → p.terminal s ≡ false → x.expanded s ≡ true
  pub backed_up : (s : ℕ) → Planned V p x s → p.terminal s ≡ false → backup V p x.lower s ≤ x.lower s

pub record CanRaiseUpper (V W : Valuation) (p : Process) (x : Bounds) (s : ℕ) : Type 0 where
  pub settled : Settled V p x
  pub planned : Planned V p x s
  pub nonterminal : p.terminal s ≡ false
  pub raises : x.upper s < upper_backup V W p x.lower x.upper s

-- no step is left
pub record Finished (V W : Valuation) (p : Process) (x : Bounds) : Type 0 where
  pub settled : Settled V p x
  pub backed_up : (s : ℕ) → Planned V p x s → p.terminal s ≡ false → upper_backup V W p x.lower x.upper s ≤ x.upper s

-- What a step changes: one entry of one state.

-- g is f with v at s
pub record Written {A : Type 0} (f g : ℕ → A) (s : ℕ) (v : A) : Type 0 where
  pub here : g s ≡ v
  pub others : (r : ℕ) → (r ≢ s) → g r ≡ f r

-- g is f
abbrev pub Alike : {A : Type 0} (f g : ℕ → A) → Type 0
Alike f g = (r : ℕ) → g r ≡ f r

pub record Expansion (V : Valuation) (p : Process) (x y : Bounds) (s : ℕ) : Type 0 where
  pub can : CanExpand V p x s
  pub expanded : Written x.expanded y.expanded s true
  pub same_lower : Alike x.lower y.lower
  pub same_upper : Alike x.upper y.upper

pub record LowerBackup (V : Valuation) (p : Process) (x y : Bounds) (s : ℕ) : Type 0 where
  pub can : CanRaiseLower V p x s
  pub same_expanded : Alike x.expanded y.expanded
  pub lower : Written x.lower y.lower s (backup V p x.lower s)
  pub same_upper : Alike x.upper y.upper

pub record UpperBackup (V W : Valuation) (p : Process) (x y : Bounds) (s : ℕ) : Type 0 where
  pub can : CanRaiseUpper V W p x s
  pub same_expanded : Alike x.expanded y.expanded
  pub same_lower : Alike x.lower y.lower
  pub upper : Written x.upper y.upper s (upper_backup V W p x.lower x.upper s)

-- the second bounds come from the first by so many expansions and so many backups
pub data Run (V W : Valuation) (p : Process) : Bounds → Bounds → ℕ → ℕ → Type 0 where
  none : {x : Bounds} → Run V W p x x 0 0
  then_expand : {x y z : Bounds} {e b : ℕ} (s : ℕ) → Run V W p x y e b → Expansion V p y z s → Run V W p x z (suc e) b
  then_raise_lower : {x y z : Bounds} {e b : ℕ} (s : ℕ) → Run V W p x y e b → LowerBackup V p y z s → Run V W p x z e (suc b)
  then_raise_upper : {x y z : Bounds} {e b : ℕ} (s : ℕ) → Run V W p x y e b → UpperBackup V W p y z s → Run V W p x z e (suc b)

-- work makes as many steps as it is granted, or fewer where none is left
pub record Worked (V W : Valuation) (p : Process) (x y : Bounds) (budget e b : ℕ) : Type 0 where
  pub run : Run V W p x y e b
  pub within : e + b ≤ budget
  pub stopped : e + b < budget → Finished V W p y

-- searching while an expansion or a lower backup is left, costing while only upper backups are, else finished
abbrev pub PhaseIs : Valuation → Valuation → Process → Bounds → Phase → Type 0
PhaseIs V W p x Searching = (s : ℕ) × (CanExpand V p x s ⊎ CanRaiseLower V p x s)
PhaseIs V W p x Costing = (s : ℕ) × CanRaiseUpper V W p x s
PhaseIs V W p x AllDone = Finished V W p x

-- The bounds after a list of calls from the beginning on, the latest call first. Figures, advice and refused calls change
-- nothing.
pub data Reached (V W : Valuation) (p : Process) : List Call → Bounds → Type 0 where
  begun : {x : Bounds} → Begun p x → Reached V W p [] x
  worked : {cs : List Call} {x y : Bounds} (budget e b : ℕ) → Reached V W p cs x → Worked V W p x y budget e b → Reached V W p (Work budget ∷ cs) y
  told : {cs : List Call} {x : Bounds} → Reached V W p cs x → Reached V W p (Figures ∷ cs) x
  advised : {cs : List Call} {x : Bounds} (s : ℕ) → Reached V W p cs x → Reached V W p (Advice s ∷ cs) x

-- the work budgets of a list of calls, added up
abbrev pub granted : List Call → ℕ
granted [] = 0
granted (Work b ∷ cs) = b + granted cs
granted (Figures ∷ cs) = granted cs
granted (Advice s ∷ cs) = granted cs
