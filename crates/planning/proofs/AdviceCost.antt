-- Taking the advice of a finished plan costs at most the upper figure, and comes only to planned states. Assumes nothing.
use Rattle.std.proofs.Common.{◌≡◌, ℕ, zero, suc, ◌+◌, ◌*◌, ◌^◌, ◌<◌, ◌≤◌, Bool, false, List, [], ◌∷◌, ◌++◌, length, inl, inr, le_trans, mul-le-mul_right, add-mul, arith}
use Rattle.std.proofs.lemmas.Bool.{cases_lt, cases_eq, lt-ltb, le-ltb, cond_both}
use Rattle.process.specs.Process.{Process, InOrder, action_at, outcome_at, Each, weighted}
use Rattle.process.specs.Valuation.{Valuation, seen, sum_seen, down, up}
use Rattle.planning.specs.declared.Advice.TheVariants.{NotReached}
use Rattle.planning.specs.declared.Call.{Call}
use Rattle.planning.specs.Plan.{value, backup, best, Worth, InPlan, at_start, onward, Advised, outside, not_worth, at_price, by_best}
use Rattle.planning.specs.Steps.{Bounds, Planned, Finished, Reached}
use Rattle.planning.specs.Policies.{Policy, Choice, act, write_off, Follows, Passed, cost, cost_of, at_start as passed_start, onward as passed_onward}
use Rattle.planning.specs.Promises.{AdviceCostsAtMostTheUpperFigure, AdviceStaysWhereItAdvises}
use Rattle.process.specs.Rounding.{weighted_mono, weighted_mul, sum_seen_weighted, pow_step, up_times_total}
use Rattle.planning.proofs.Basics.{each_from}
use Rattle.planning.proofs.Capped.{Capped, reached_capped}

-- the valuation is at least the average
abbrev Covers : Valuation → Type 0
Covers W = (t c : ℕ) (os : List (ℕ × ℕ)) → 1 ≤ t → c * t + sum_seen os ≤ W t c os * t

-- what an action costs over n + 1 steps, by what its outcomes cost over n
covered_cost : (W : Valuation) → Covers W → (t n c u : ℕ) (f g : ℕ → ℕ) (os : List (ℕ × ℕ)) → 1 ≤ t → Each (λ o. f o.0 ≤ g o.0 * t ^ n) os → W t c (seen g os) ≤ u → c * t ^ suc n + weighted f os ≤ u * t ^ suc n
covered_cost W covers t n c u f g os pos below worth =
    omega (arith, pow_step c t n, pow_step u t n, mul-le-mul_right (t ^ n) once, add-mul (c * t) (weighted g os) (t ^ n), weighted_mul g (t ^ n) os, weighted_mono f (λ s. g s * t ^ n) os below)
  where
    once : c * t + weighted g os ≤ u * t
    once = rw (← sum_seen_weighted g os) (le_trans (covers t c (seen g os) pos) (mul-le-mul_right t worth))

-- what the advice lets a policy choose at an open planned state, and how the upper figure covers it
data Advisable (V W : Valuation) (p : Process) (x : Bounds) (s : ℕ) : Choice → Type 0 where
  off : p.price ≤ x.upper s → Advisable V W p x s write_off
  on : Worth V p x.lower s → value W p x.upper (action_at p s (best V p x.lower s)) ≤ x.upper s → Advisable V W p x s (act (best V p x.lower s))

module _ (V W : Valuation) (p : Process) (x : Bounds) (done : Finished V W p x) (s : ℕ) (planned : Planned V p x s) (live : p.terminal s ≡ false) where
  choice_advisable : Capped p x → (π : Policy) → Follows V p x π → (path : List ℕ) → Advisable V W p x s (π (path ++ (s ∷ [])))
  choice_advisable capped π follows path = elim (cases_lt (backup V p x.lower s) p.price) [
    | inr spoilt ↦ rw (follows.writes_off path s (not_worth live planned spoilt)) (off (rw (le-ltb _ _ spoilt) at (done.backed_up s planned live)))
    | inl worth ↦ elim (cases_eq (x.upper s) p.price) [
      | inl level ↦ rw (follows.writes_off path s (at_price live planned level)) (off (omega arith))
      | inr below ↦ rw (follows.acts path s _ (by_best live planned worth below)) (on worth (omega (arith, rw (lt-ltb _ _ worth) at (done.backed_up s planned live), capped.upper s)))
    ]
  ]

  chosen_planned : {a : ℕ} → Advisable V W p x s (act a) → (k : ℕ) → k < length (action_at p s a).outcomes → Planned V p x (outcome_at (action_at p s a) k).0
  chosen_planned (on worth _) k h = onward s k planned live (done.settled.expanded s planned live) worth h

  chosen_within : 1 ≤ p.total → Covers W → (n : ℕ) (next : ℕ → ℕ) → ((r : ℕ) → Planned V p x r → next r ≤ x.upper r * p.total ^ n) → {d : Choice} → Advisable V W p x s d → cost_of p (p.total ^ suc n) next s d ≤ x.upper s * p.total ^ suc n
  chosen_within pos covers n next below (off h) = mul-le-mul_right _ h
  chosen_within pos covers n next below (on worth h) = covered_cost W covers p.total n _ _ next x.upper _ pos (each_from _ _ (0, 0) (λ k within. below _ (chosen_planned (on worth h) k within))) h

module _ (V W : Valuation) (p : Process) (x : Bounds) (done : Finished V W p x) (capped : Capped p x) (π : Policy) (follows : Follows V p x π) where
  passed_planned : {path : List ℕ} {s : ℕ} → Passed p π path s → Planned V p x s
  passed_planned passed_start = at_start
  passed_planned (passed_onward path s a k before live chosen h) =
      let planned = passed_planned before in
      chosen_planned V W p x done s planned live (rw chosen at (choice_advisable V W p x done s planned live capped π follows path)) k h

  cost_within : 1 ≤ p.total → Covers W → (n : ℕ) (path : List ℕ) (s : ℕ) → Planned V p x s → cost p π n path s ≤ x.upper s * p.total ^ n
  cost_within pos covers zero path s planned = omega arith
  cost_within pos covers (suc n) path s planned = cond_both (p.terminal s) _ _ (λ c. c ≤ x.upper s * p.total ^ suc n) (λ _. omega arith)
      (λ live. chosen_within V W p x done s planned live pos covers n _ (cost_within pos covers n (path ++ (s ∷ []))) (choice_advisable V W p x done s planned live capped π follows path))

not_reached_unplanned : {V : Valuation} {p : Process} {e : ℕ → Bool} {f u : ℕ → ℕ} {s : ℕ} → Advised V p e f u s NotReached → InPlan V p e f s → ⊥
not_reached_unplanned (outside live out) planned = out planned

module _ (p : Process) (ok : InOrder p) {cs : List Call} {x : Bounds} (reached : Reached down up p cs x) (done : Finished down up p x) where
  pub advice_costs_at_most_the_upper_figure : AdviceCostsAtMostTheUpperFigure p x
  advice_costs_at_most_the_upper_figure π follows n = cost_within down up p x done (reached_capped down up p ok reached) π follows ok.total_low up_times_total n [] p.start at_start

  pub advice_stays_where_it_advises : AdviceStaysWhereItAdvises p x
  advice_stays_where_it_advises π follows path s passed unreached = not_reached_unplanned unreached (passed_planned down up p x done (reached_capped down up p ok reached) π follows passed)
