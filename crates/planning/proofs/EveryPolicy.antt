-- No policy costs less than the lower figure: raised figures are consistent with every action, and what that means for policies. Assumes nothing.
use Rattle.std.proofs.Common.{◌≡◌, ℕ, zero, suc, ◌+◌, ◌*◌, ◌^◌, ◌<◌, ◌≤◌, false, List, [], ◌∷◌, ◌++◌, length, sym, subst, inl, inr, le_trans, mul-le-mul_right, add-mul, zero-mul, arith}
use mathlib.Core.Path.{fun_ext}
use native.Mathlib.Nat.{pow-zero}
use Rattle.std.proofs.lemmas.Bool.{cases_Bool}
use Rattle.process.specs.Process.{Process, Action, ActionInOrder, Each, InOrder, action_at, no_action, weighted}
use Rattle.process.specs.Valuation.{Valuation, Monotone, down}
use Rattle.planning.specs.Plan.{value}
use Rattle.planning.specs.declared.Call.{Call}
use Rattle.planning.specs.Steps.{Bounds, Reached}
use Rattle.planning.specs.Policies.{Policy, Proper, Choice, act, write_off, Has, cost, share, cost_of, share_of}
use Rattle.planning.specs.Promises.{NoPolicyBeatsTheLowerFigure}
use Rattle.process.specs.Rounding.{each_map, weighted_mono, weighted_linear, weighted_mul, sum_seen_weighted, pow_step, down_monotone, down_times_total, down_greatest}
use Rattle.planning.proofs.Basics.{each_at, written_each, backup_le_value, outcomes_known, value_mono}
use Rattle.planning.proofs.Raising.{RaisedLower, begin, raise, raised_terminal, lower_capped}
use Rattle.planning.proofs.RaisedBounds.{reached_raised}

-- no figure of an open state is more than an action of the state is worth
abbrev Consistent : Valuation → Process → (ℕ → ℕ) → Type 0
Consistent V p f = (s a : ℕ) → s < p.states → p.terminal s ≡ false → a < length (p.actions s) → f s ≤ value V p f (action_at p s a)

module _ (V : Valuation) (mono : Monotone V) (p : Process) (ok : InOrder p) (first : Consistent V p p.estimate) where
  raised_consistent : {f : ℕ → ℕ} → RaisedLower V p f → Consistent V p f
  raised_consistent (begin same) = subst (Consistent V p) (sym (fun_ext same)) first
  raised_consistent (raise {t = f} {u = g} s made live higher now) =
      let more = value_mono V mono p ok f g (λ r _. written_each now (λ k n. f k ≤ n) (omega arith) (λ k _. omega arith) r) in
      written_each now (λ r n. (a : ℕ) → r < p.states → p.terminal r ≡ false → a < length (p.actions r) → n ≤ value V p g (action_at p r a))
      (λ a h is_open within. le_trans (backup_le_value V p f s a within) (more s h is_open a within))
      (λ r _ a h is_open within. le_trans (raised_consistent made r a h is_open within) (more r h is_open a within))

estimate_consistent : (p : Process) → InOrder p → Consistent down p p.estimate
estimate_consistent p ok s a h live within = down_greatest p.total _ _ _ ok.total_low (rw sum_seen_weighted action.consistent)
  where
    action : ActionInOrder p s (action_at p s a)
    action = each_at (ActionInOrder p s) (p.actions s) a no_action (ok.opens s h live).actions_in_order within

-- what holds of each outcome over n steps holds of the action over one step more
action_step : (p : Process) (f next under_way : ℕ → ℕ) (a : Action) (n figure : ℕ) → figure ≤ value down p f a → Each (λ o. f o.0 * p.total ^ n ≤ next o.0 + p.price * under_way o.0) a.outcomes → figure * p.total ^ suc n ≤ a.cost * p.total ^ suc n + weighted next a.outcomes + p.price * weighted under_way a.outcomes
action_step p f next under_way a n figure below all =
    omega (arith, pow_step figure p.total n, mul-le-mul_right (p.total ^ n) once, add-mul (a.cost * p.total) (weighted f a.outcomes) (p.total ^ n), pow_step a.cost p.total n, ahead)
  where
    once : figure * p.total ≤ a.cost * p.total + weighted f a.outcomes
    once = rw (← sum_seen_weighted f a.outcomes) (le_trans (mul-le-mul_right p.total below) (down_times_total p.total a.cost _))

    ahead : weighted f a.outcomes * p.total ^ n ≤ weighted next a.outcomes + p.price * weighted under_way a.outcomes
    ahead = rw (← weighted_mul f (p.total ^ n) a.outcomes, ← weighted_linear next under_way p.price a.outcomes) (weighted_mono _ _ a.outcomes all)

-- The figure times the total to the n is never more than a policy costs over n steps, the share under way at the price.
module _ (p : Process) (ok : InOrder p) (f : ℕ → ℕ) (made : RaisedLower down p f) (π : Policy) (proper : Proper p π) where
  choice_step : (n s : ℕ) → s < p.states → p.terminal s ≡ false → (next under_way : ℕ → ℕ) → ((r : ℕ) → r < p.states → f r * p.total ^ n ≤ next r + p.price * under_way r) → (c : Choice) → Has p s c → f s * p.total ^ suc n ≤ cost_of p (p.total ^ suc n) next s c + p.price * share_of p under_way s c
  choice_step n s h live next under_way each (act a) has = action_step p f next under_way (action_at p s a) n (f s) (raised_consistent down down_monotone p ok (estimate_consistent p ok) made s a h live has) (each_map (λ o. each o.0) _ (outcomes_known p ok s h live a has))
  choice_step n s h live next under_way each write_off has = omega (arith, mul-le-mul_right (p.total ^ suc n) (lower_capped down p ok made s h))

  unless_terminal : (s k rest : ℕ) → s < p.states → (p.terminal s ≡ false → f s * k ≤ rest) → f s * k ≤ rest
  unless_terminal s k rest h when_open = elim (cases_Bool (p.terminal s)) [
    | inl end ↦ rw (raised_terminal made s end, (ok.terminals s h end).estimate_zero, zero-mul) (omega arith)
    | inr live ↦ when_open live
  ]

  at_least : (n : ℕ) (path : List ℕ) (s : ℕ) → s < p.states → f s * p.total ^ n ≤ cost p π n path s + p.price * share p π n path s
  at_least zero path s h = unless_terminal s _ _ h (λ live. rw (live, pow-zero) (omega (arith, lower_capped down p ok made s h)))
  at_least (suc n) path s h = unless_terminal s _ _ h (λ live. rw live (choice_step n s h live _ _ (at_least n (path ++ (s ∷ []))) _ (proper path s h live)))

pub no_policy_beats_the_lower_figure : (p : Process) → InOrder p → {W : Valuation} {cs : List Call} {x : Bounds} → Reached down W p cs x → NoPolicyBeatsTheLowerFigure p x
no_policy_beats_the_lower_figure p ok {W = W} {x = x} reached π proper n = at_least p ok x.lower (reached_raised down W p reached).lower π proper n [] p.start ok.start_known
