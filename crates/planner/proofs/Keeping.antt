-- A call that is answered as it should be keeps what is known of a plan. Assumes nothing.
use Rattle.std.proofs.Common.{◌≡◌, Bool, true, false, List, ◌∷◌, Ok, Err, Result, sym, ◌∙◌, subst}
use mathlib.Core.Bool.{false≢true}
use Rattle.process.specs.Process.{Process, Told}
use Rattle.process.specs.Valuation.{down, up}
use Rattle.planning.specs.Steps.{Reached, worked, told, advised}
use Rattle.planning.specs.declared.Call.{Call}
use Rattle.planning.specs.declared.Call.TheVariants.{Work, Figures, Advice}
use Rattle.planning.specs.declared.Refusal.{Refusal}
use Rattle.planning.proofs.Promising.{kept}
use Rattle.planner.specs.Answering.{CallAnswered, Answered}
use Rattle.planner.specs.declared.answer.Answer.{Answer}
use Rattle.planner.specs.declared.answer.Answer.TheVariants.{Worked, Figured, Advised}
use Rattle.search.specs.Lines.{bounds_of}
use Rattle.search.specs.declared.bounds.Bounds.{Bounds as Lines}

-- Over a model in order, a call is one call more; over another, nothing changes.
record Goes (ordered : Bool) (p : Process) (x y : Lines) (call : Call) : Type 0 where
  onward : ordered ≡ true → (cs : List Call) → Reached down up p cs (bounds_of x) → Reached down up p (call ∷ cs) (bounds_of y)
  unmoved : ordered ≡ false → y ≡ x

module _ (ordered : Bool) (p : Process) (x y : Lines) where
  stays : (call : Call) → ((cs : List Call) → Reached down up p cs (bounds_of x) → Reached down up p (call ∷ cs) (bounds_of x)) → y ≡ x → Goes ordered p x y call
  stays call step same = record {
    onward = λ _ cs before. subst (λ (z : Lines). Reached down up p (call ∷ cs) (bounds_of z)) (sym same) (step cs before);
    unmoved = λ _. same;
  }

  goes : (call : Call) (r : Result Answer Refusal) → CallAnswered ordered p x y call r → Goes ordered p x y call
  goes (Work budget) (Ok (Worked e b phase)) done = record {
    onward = λ _ cs before. worked budget e b before done.1.worked;
    unmoved = λ off. absurd (false≢true (sym off ∙ done.0));
  }
  goes (Work budget) (Ok (Figured l u phase)) done = absurd done
  goes (Work budget) (Ok (Advised a)) done = absurd done
  goes (Work budget) (Err refusal) done = record { onward = λ on. absurd (false≢true (sym done.1 ∙ on)); unmoved = λ _. done.2 }
  goes Figures (Ok (Worked e b phase)) done = absurd done
  goes Figures (Ok (Figured l u phase)) done = stays Figures (λ cs before. told before) done.1
  goes Figures (Ok (Advised a)) done = absurd done
  goes Figures (Err refusal) done = stays Figures (λ cs before. told before) done.1
  goes (Advice s) (Ok (Worked e b phase)) done = absurd done
  goes (Advice s) (Ok (Figured l u phase)) done = absurd done
  goes (Advice s) (Ok (Advised a)) done = stays (Advice s) (λ cs before. advised s before) done.1
  goes (Advice s) (Err refusal) done = stays (Advice s) (λ cs before. advised s before) done.1

module _ {ordered : Bool} {p : Process} {x y : Lines} {call : Call} {r : Result Answer Refusal} where
  -- an answer keeps the promises
  pub with_promises : Told p ordered → CallAnswered ordered p x y call r → Answered ordered p x y call r
  with_promises tells done = record {
    as_asked = done;
    promises = λ e cs before. kept p (tells.in_order e) (call ∷ cs) (bounds_of y) ((goes ordered p x y call r done).onward e cs before);
  }

  pub unmoved_out_of_order : Answered ordered p x y call r → ordered ≡ false → y ≡ x
  unmoved_out_of_order answer = (goes ordered p x y call r answer.as_asked).unmoved
