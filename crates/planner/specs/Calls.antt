-- What each call answers of a plan that tells p, from any bounds. A refusal tells its number. Assumes nothing.
use Rattle.std.specs.Prelude.{◌≡◌, ℕ, ◌<◌, ◌≤◌, Bool, true, false, ◌⊎◌, Ok, Err, Result}
use Rattle.process.specs.Process.{Process}
use Rattle.process.specs.Valuation.{Valuation, down, up}
use Rattle.planning.specs.Plan.{Advised}
use Rattle.planning.specs.Refusals.{number}
use Rattle.planning.specs.Steps.{Bounds, Finished, PhaseIs, Worked}
use Rattle.planning.specs.declared.Advice.{Advice}
use Rattle.planning.specs.declared.Phase.{Phase}
use Rattle.planning.specs.declared.Phase.TheVariants.{Searching, Costing, Finished as AllDone}
use Rattle.planning.specs.declared.Refusal.{Refusal}
use Rattle.search.specs.Lines.{bounds_of}
use Rattle.search.specs.declared.bounds.Bounds.{Bounds as Lines}

-- The steps that were made, told as the expansions, the backups and the phase after them.
pub record WorkDone (V W : Valuation) (p : Process) (x y : Bounds) (budget : ℕ) (told : ℕ × ℕ × Phase) : Type 0 where
  pub worked : Worked V W p x y budget told.0 told.1
  pub phase_is : PhaseIs V W p y told.2

-- the price until the plan is finished, then the start's upper entry
abbrev pub upper_figure : Process → Bounds → Phase → ℕ
upper_figure p x Searching = p.price
upper_figure p x Costing = p.price
upper_figure p x AllDone = x.upper p.start

-- The lower figure, the upper figure and the phase.
pub record FiguresAre (V W : Valuation) (p : Process) (x : Bounds) (told : ℕ × ℕ × Phase) : Type 0 where
  pub lower_is : told.0 ≡ x.lower p.start
  pub upper_is : told.1 ≡ upper_figure p x told.2
  pub phase_is : PhaseIs V W p x told.2

-- The advice of a finished plan, for a state that the model has.
pub record AdviceIs (V W : Valuation) (p : Process) (x : Bounds) (s : ℕ) (told : Advice) : Type 0 where
  pub known : s < p.states
  pub finished : Finished V W p x
  pub advised : Advised V p x.expanded x.lower x.upper s told

-- Why advice is refused, in the order of the tests.
abbrev pub AdviceRefused : Bool → Process → Bounds → ℕ → ℕ → Type 0
AdviceRefused ordered p x s n =
    ((n ≡ 11) × (ordered ≡ false)) ⊎ (((n ≡ 12) × (ordered ≡ true) × (p.states ≤ s)) ⊎ ((n ≡ 13) × (ordered ≡ true) × (s < p.states) × (Finished down up p x → ⊥)))

abbrev pub WorkAnswered : Bool → Process → Lines → Lines → ℕ → Result (ℕ × ℕ × Phase) Refusal → Type 0
WorkAnswered ordered p x y budget (Ok told) = (ordered ≡ true) × WorkDone down up p (bounds_of x) (bounds_of y) budget told
WorkAnswered ordered p x y budget (Err refusal) = (number refusal ≡ 11) × (ordered ≡ false) × (y ≡ x)

abbrev pub FiguresAnswered : Bool → Process → Lines → Result (ℕ × ℕ × Phase) Refusal → Type 0
FiguresAnswered ordered p x (Ok told) = (ordered ≡ true) × FiguresAre down up p (bounds_of x) told
FiguresAnswered ordered p x (Err refusal) = (number refusal ≡ 11) × (ordered ≡ false)

abbrev pub AdviceAnswered : Bool → Process → Lines → ℕ → Result Advice Refusal → Type 0
AdviceAnswered ordered p x s (Ok told) = (ordered ≡ true) × AdviceIs down up p (bounds_of x) s told
AdviceAnswered ordered p x s (Err refusal) = AdviceRefused ordered p (bounds_of x) s (number refusal)
