-- What any call answers, and what is known after it. Assumes nothing.
use Rattle.std.specs.Prelude.{◌≡◌, Bool, true, List, ◌∷◌, Ok, Err, Result}
use Rattle.process.specs.Process.{Process}
use Rattle.process.specs.Valuation.{down, up}
use Rattle.planner.specs.Calls.{WorkAnswered, FiguresAnswered, AdviceAnswered}
use Rattle.planner.specs.declared.answer.Answer.{Answer}
use Rattle.planner.specs.declared.answer.Answer.TheVariants.{Worked, Figured, Advised}
use Rattle.planning.specs.Promises.{Kept}
use Rattle.planning.specs.Steps.{Reached}
use Rattle.planning.specs.declared.Call.{Call}
use Rattle.planning.specs.declared.Call.TheVariants.{Work, Figures, Advice}
use Rattle.planning.specs.declared.Refusal.{Refusal}
use Rattle.search.specs.Lines.{bounds_of}
use Rattle.search.specs.declared.bounds.Bounds.{Bounds as Lines}

-- a call gets the answer of its kind, or its refusal
abbrev pub CallAnswered : Bool → Process → Lines → Lines → Call → Result Answer Refusal → Type 0
CallAnswered ordered p x y (Work budget) (Ok (Worked e b phase)) = WorkAnswered ordered p x y budget (Ok (e, b, phase))
CallAnswered ordered p x y (Work budget) (Ok (Figured l u phase)) = ⊥
CallAnswered ordered p x y (Work budget) (Ok (Advised told)) = ⊥
CallAnswered ordered p x y (Work budget) (Err refusal) = WorkAnswered ordered p x y budget (Err refusal)
CallAnswered ordered p x y Figures (Ok (Worked e b phase)) = ⊥
CallAnswered ordered p x y Figures (Ok (Figured l u phase)) = FiguresAnswered ordered p x (Ok (l, u, phase)) × (y ≡ x)
CallAnswered ordered p x y Figures (Ok (Advised told)) = ⊥
CallAnswered ordered p x y Figures (Err refusal) = FiguresAnswered ordered p x (Err refusal) × (y ≡ x)
CallAnswered ordered p x y (Advice s) (Ok (Worked e b phase)) = ⊥
CallAnswered ordered p x y (Advice s) (Ok (Figured l u phase)) = ⊥
CallAnswered ordered p x y (Advice s) (Ok (Advised told)) = AdviceAnswered ordered p x s (Ok told) × (y ≡ x)
CallAnswered ordered p x y (Advice s) (Err refusal) = AdviceAnswered ordered p x s (Err refusal) × (y ≡ x)

-- Whatever calls came before, the latest first: with this one, the promises hold.
abbrev pub Keeps : Process → Call → Lines → Lines → Type 0
Keeps p call x y = (cs : List Call) → Reached down up p cs (bounds_of x) → Kept p (call ∷ cs) (bounds_of y)

pub record Answered (ordered : Bool) (p : Process) (x y : Lines) (call : Call) (r : Result Answer Refusal) : Type 0 where
  pub as_asked : CallAnswered ordered p x y call r
  pub promises : ordered ≡ true → Keeps p call x y
