-- An action's outcomes gathered one by one. Assumes nothing.
use Rattle.std.proofs.Common.{◌≡◌, ℕ, zero, suc, ◌+◌, ◌^◌, ◌<◌, ◌≤◌, Bool, true, false, List, [], ◌∷◌, length, get_or, take, sym, refl, ap, ◌∙◌, le_trans, le_of_suc-le-suc, not-suc-le-zero, add-one, arith}
use native.Mathlib.Decide.{dec_lt}
use Rattle.std.proofs.lemmas.List.{take_all}
use Rattle.process.specs.Process.{Process, InOrder, Told, ActionInOrder, Each, weights, no_action, action_at, outcome_at}
use Rattle.process.specs.Valuation.{seen}
use Rattle.process.specs.Gathering.{Light, one_more}
use Rattle.planning.proofs.Basics.{each_at}

-- an action that a model tells is in order
pub record Taken (p : Process) (s a : ℕ) : Type 0 where
  pub some_total : 1 ≤ p.total
  pub light : weights (action_at p s a).outcomes ≤ 2 ^ 30
  pub places : (k : ℕ) → k < length (action_at p s a).outcomes → (outcome_at (action_at p s a) k).0 < 1024

some_none : {X : Type 0} (xs : List X) (a : ℕ) → xs ≡ [] → a < length xs → ⊥
some_none xs a none h = not-suc-le-zero (rw none at h)

-- a model with an action is in order
ordered_by : (p : Process) (ordered : Bool) → Told p ordered → (s a : ℕ) → a < length (p.actions s) → InOrder p
ordered_by p true told s a h = told.in_order refl
ordered_by p false told s a h = absurd (some_none (p.actions s) a (ap (λ (q : Process). q.actions s) (told.nothing refl)) h)

pub taken : (p : Process) (ordered : Bool) → Told p ordered → (s a : ℕ) → a < length (p.actions s) → Taken p s a
taken p ordered told s a h = record {
  some_total = ok.total_low;
  light = omega (arith, action.weights_add_up, ok.total_high);
  places = λ k w. omega (arith, ok.states_few, (each_at (λ o. (o.0 < p.states) × (1 ≤ o.1)) (action_at p s a).outcomes k (0, 0) action.outcomes_known w).0);
}
  where
    ok : InOrder p
    ok = ordered_by p ordered told s a h

    known : s < p.states
    known = elim (dec_lt s p.states) [ yes below ↦ below | no above ↦ absurd (some_none (p.actions s) a (told.outside s (omega arith)).2 h) ]

    live : (b : Bool) → p.terminal s ≡ b → p.terminal s ≡ false
    live true e = absurd (some_none (p.actions s) a (ok.terminals s known e).no_actions h)
    live false e = e

    action : ActionInOrder p s (action_at p s a)
    action = each_at (ActionInOrder p s) (p.actions s) a no_action (ok.opens s known (live (p.terminal s) refl)).actions_in_order h

-- the first k outcomes are gathered
pub record SoFar (gathered : List (ℕ × ℕ) → ℕ) (f : ℕ → ℕ) (os : List (ℕ × ℕ)) (k all : ℕ) : Type 0 where
  pub same : all ≡ gathered (seen f (take k os))
  pub figures : Each (λ o. o.0 < 2 ^ 32) (seen f (take k os))

seen_more : (f : ℕ → ℕ) (os : List (ℕ × ℕ)) (k : ℕ) → k < length os → seen f (take (suc k) os) ≡ one_more (seen f (take k os)) (f (get_or os k (0, 0)).0) (get_or os k (0, 0)).1
seen_more f [] k h = absurd (not-suc-le-zero h)
seen_more f (o ∷ os) zero h = refl
seen_more f (o ∷ os) (suc k) h = ap (λ rest. (f o.0, o.1) ∷ rest) (seen_more f os k (le_of_suc-le-suc h))

each_one_more : (P : ℕ × ℕ → Type 0) (os : List (ℕ × ℕ)) (figure weight : ℕ) → Each P os → P (figure, weight) → Each P (one_more os figure weight)
each_one_more P [] figure weight all here = (here, tt)
each_one_more P (o ∷ os) figure weight all here = (all.0, each_one_more P os figure weight all.1 here)

weights_seen : (f : ℕ → ℕ) (os : List (ℕ × ℕ)) (k : ℕ) → weights (seen f (take k os)) ≤ weights os
weights_seen f [] zero = omega arith
weights_seen f [] (suc k) = omega arith
weights_seen f (o ∷ os) zero = omega arith
weights_seen f (o ∷ os) (suc k) = omega (arith, weights_seen f os k)

module _ (gathered : List (ℕ × ℕ) → ℕ) (f : ℕ → ℕ) (os : List (ℕ × ℕ)) where
  module _ (k all : ℕ) (so_far : SoFar gathered f os k all) where
    module _ (h : k < length os) (o : ℕ × ℕ) (told : o ≡ get_or os k (0, 0)) (figure : ℕ) (read : figure ≡ f o.0) (fits : figure < 2 ^ 32) where
      next_figures : Each (λ x. x.0 < 2 ^ 32) (one_more (seen f (take k os)) figure o.1)
      next_figures = each_one_more _ _ _ _ so_far.figures fits

      next : seen f (take (k + 1) os) ≡ one_more (seen f (take k os)) figure o.1
      next = rw (read, told, add-one) (seen_more f os k h)

      light_more : weights os ≤ 2 ^ 30 → Light (one_more (seen f (take k os)) figure o.1)
      light_more light = record { figures = next_figures; few = rw (sym next) (le_trans (weights_seen f os (k + 1)) light) }

      pub so_far_more : weights os ≤ 2 ^ 30 → (r : ℕ) → ((xs : List (ℕ × ℕ)) → all ≡ gathered xs → Light (one_more xs figure o.1) → r ≡ gathered (one_more xs figure o.1)) → SoFar gathered f os (k + 1) r
      so_far_more light r gives = record { same = rw next (gives (seen f (take k os)) so_far.same (light_more light)); figures = rw next next_figures }

    module _ (h : length os ≤ k) where
      whole : take k os ≡ os
      whole = take_all k os h

      pub all_same : all ≡ gathered (seen f os)
      all_same = so_far.same ∙ ap (λ xs. gathered (seen f xs)) whole

      pub all_light : weights os ≤ 2 ^ 30 → Light (seen f os)
      all_light light = rw whole at (light_of (le_trans (weights_seen f os k) light))
        where
          light_of : weights (seen f (take k os)) ≤ 2 ^ 30 → Light (seen f (take k os))
          light_of few = record { figures = so_far.figures; few = few }
