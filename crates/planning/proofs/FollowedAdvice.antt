-- The advice can be followed: act where an action is worth it and the upper figure is not the price, else write off. Outside the plan any choice will do, so the plan need not be known. Assumes nothing.
use Rattle.std.proofs.Common.{◌≡◌, ℕ, ◌-◌, cond, eqb, ltb, List, [], ◌∷◌, ◌++◌, length, get_or, refl, arith}
use Rattle.std.proofs.lemmas.List.{length_push, get_or_push}
use Rattle.std.proofs.lemmas.Bool.{ltb-true, lt-ltb, le-ltb, eq-eqb, ne_eqb, cond_both}
use Rattle.process.specs.Process.{Process}
use Rattle.process.specs.Valuation.{Valuation}
use Rattle.planning.specs.declared.Advice.TheVariants.{Act, WriteOff}
use Rattle.planning.specs.Plan.{backup, best, Advised, not_worth, at_price, by_best}
use Rattle.planning.specs.Steps.{Bounds}
use Rattle.planning.specs.Policies.{Policy, Choice, act, write_off, Has, Proper, Follows}
use Rattle.planning.proofs.Basics.{best_within}

abbrev last_of : List ℕ → ℕ
last_of path = get_or path (length path - 1) 0

last_of_push : (path : List ℕ) (s : ℕ) → last_of (path ++ (s ∷ [])) ≡ s
last_of_push path s = get_or_push path s 0 _ (omega (arith, length_push path s))

module _ (V : Valuation) (p : Process) (x : Bounds) where
  abbrev chosen : ℕ → Choice
  chosen s = cond (ltb (backup V p x.lower s) p.price) (cond (eqb (x.upper s) p.price) write_off (act (best V p x.lower s))) write_off

  chosen_has : (s : ℕ) → Has p s (chosen s)
  chosen_has s = cond_both _ _ write_off (Has p s)
      (λ worth. cond_both (eqb (x.upper s) p.price) write_off (act _) (Has p s) (λ _. tt) (λ _. best_within V p x.lower s (ltb-true _ _ worth)))
      (λ _. tt)

  chosen_acts : {s a : ℕ} → Advised V p x.expanded x.lower x.upper s (Act a) → chosen s ≡ act a
  chosen_acts (by_best live planned worth unlevel) = rw (lt-ltb _ _ worth, ne_eqb _ _ unlevel)

  chosen_writes_off : {s : ℕ} → Advised V p x.expanded x.lower x.upper s WriteOff → chosen s ≡ write_off
  chosen_writes_off (not_worth live planned high) = rw (le-ltb _ _ high)
  chosen_writes_off (at_price live planned level) = rw (eq-eqb _ _ level) (cond_both _ _ _ (λ c. c ≡ write_off) (λ _. refl) (λ _. refl))

  pub advice_can_be_followed : (π : Policy) × Proper p π × Follows V p x π
  advice_can_be_followed = (
    λ path. chosen (last_of path),
    λ path s _ _. rw (last_of_push path s) (chosen_has s),
    record {
      acts = λ path s a advised. rw (last_of_push path s) (chosen_acts advised);
      writes_off = λ path s advised. rw (last_of_push path s) (chosen_writes_off advised);
    },
  )
