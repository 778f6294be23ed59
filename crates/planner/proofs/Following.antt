-- A plan that a list of calls is made on, one by one. Assumes nothing.
use Rattle.std.proofs.Common.{◌≡◌, ℕ, ◌+◌, ◌<◌, ◌≤◌, Bool, true, false, List, [], ◌∷◌, reverse, length, get_or, take, sym, refl, ap, ◌∙◌, subst}
use Rattle.std.proofs.lemmas.List.{take_all, take_more, reverse-append}
use Rattle.process.specs.Process.{Process}
use Rattle.process.specs.Valuation.{down, up}
use Rattle.planning.specs.Steps.{Bounds, Begun, Reached, begun}
use Rattle.planning.specs.declared.Call.{Call}

past_more : (cs : List Call) (k : ℕ) (d : Call) → k < length cs → reverse (take (k + 1) cs) ≡ get_or cs k d ∷ reverse (take k cs)
past_more cs k d h = ap reverse (take_more cs k d h) ∙ reverse-append (take k cs) (get_or cs k d ∷ [])

-- the first k calls are made on the plan that began with the model m
pub record Followed {A : Type 0} (process : A → Process) (ordered : A → Bool) (m : A) (calls : List Call) (k : ℕ) (n : A) (x : Bounds) : Type 0 where
  pub same : n ≡ m
  pub reached : ordered m ≡ true → Reached down up (process m) (reverse (take k calls)) x
  pub untouched : ordered m ≡ false → Begun (process m) x

module _ {A : Type 0} (process : A → Process) (ordered : A → Bool) (m : A) (calls : List Call) where
  pub followed_none : (given : A) → m ≡ given → (x : Bounds) → Begun (process given) x → Followed process ordered m calls 0 m x
  followed_none given e x first = record { same = refl; reached = λ _. rw e (begun first); untouched = λ _. rw e first }

  -- one call more, which changes the bounds only over a model in order
  pub followed_more : (k : ℕ) (n n' : A) (x y : Bounds) (d : Call) → k < length calls → Followed process ordered m calls k n x → n' ≡ n → (ordered n ≡ true → (cs : List Call) → Reached down up (process n) cs x → Reached down up (process n) (get_or calls k d ∷ cs) y) → (ordered n ≡ false → y ≡ x) → Followed process ordered m calls (k + 1) n' y
  followed_more k n n' x y d h followed model step unmoved = record {
    same = model ∙ followed.same;
    reached = λ e.
        let call : ordered m ≡ true → (cs : List Call) → Reached down up (process m) cs x → Reached down up (process m) (get_or calls k d ∷ cs) y = rw followed.same at step in
        rw (past_more calls k d h) (call e (reverse (take k calls)) (followed.reached e));
    untouched = λ e. subst (Begun (process m)) (sym (unmoved (ap ordered followed.same ∙ e))) (followed.untouched e);
  }

  module _ (given : A) (e : m ≡ given) (k : ℕ) (n : A) (x : Bounds) (followed : Followed process ordered m calls k n x) where
    pub followed_all : length calls ≤ k → ordered given ≡ true → Reached down up (process given) (reverse calls) x
    followed_all h =
        let all : ordered m ≡ true → Reached down up (process m) (reverse calls) x = λ w. rw (take_all k calls h) at (followed.reached w) in
        rw e at all

    pub followed_untouched : ordered given ≡ false → Begun (process given) x
    followed_untouched = rw e at followed.untouched
