-- First facts: what holds of each element or entry, least values, best actions, planned states, and steps that are not left. Assumes nothing.
use Rattle.std.proofs.Common.{◌≡◌, ℕ, zero, suc, ◌<◌, ◌≤◌, min, Bool, true, false, ltb, leb, List, [], ◌∷◌, length, get_or, refl, inl, inr, le_trans, le_of_suc-le-suc, not-suc-le-zero, arith}
use lib.ListN.{length-map}
use Rattle.std.proofs.lemmas.List.{get_or-map}
use Rattle.std.proofs.lemmas.Bool.{leb-true, leb-false, both_ways, cases_eq, cases_order, cond_both}
use Rattle.process.specs.Process.{Process, InOrder, ActionInOrder, action_at, no_action, Each}
use Rattle.process.specs.Valuation.{Valuation, Monotone}
use Rattle.planning.specs.Plan.{least, first_least, value, values, backup, best, Worth, upper_backup, InPlan, at_start, onward}
use Rattle.planning.specs.Steps.{Bounds, Written, CanExpand, CanRaiseLower, CanRaiseUpper, Settled, Finished}
use Rattle.process.specs.Rounding.{each_map}

pub each_at : {X : Type 0} (P : X → Type 0) (xs : List X) (k : ℕ) (d : X) → Each P xs → k < length xs → P (get_or xs k d)
each_at P [] k d all h = absurd (not-suc-le-zero h)
each_at P (x ∷ xs) zero d all h = all.0
each_at P (x ∷ xs) (suc k) d all h = each_at P xs k d all.1 (le_of_suc-le-suc h)

pub each_from : {X : Type 0} (P : X → Type 0) (xs : List X) (d : X) → ((k : ℕ) → k < length xs → P (get_or xs k d)) → Each P xs
each_from P [] d all = tt
each_from P (x ∷ xs) d all = (all 0 (omega arith), each_from P xs d (λ k h. all (suc k) (omega arith)))

-- what holds of the value written at its place, and of the old values at the others
pub written_each : {A : Type 0} {f g : ℕ → A} {s : ℕ} {v : A} → Written f g s v → (P : ℕ → A → Type 0) → P s v → ((r : ℕ) → (r ≡ s → ⊥) → P r (f r)) → (r : ℕ) → P r (g r)
written_each {s = s} now P here others r = elim (cases_eq r s) [ inl e ↦ rw (e, now.here) here | inr apart ↦ rw (now.others r apart) (others r apart) ]

pub least_le_cap : (c : ℕ) (xs : List ℕ) → least c xs ≤ c
least_le_cap c [] = omega arith
least_le_cap c (x ∷ xs) = omega (arith, least_le_cap c xs)

pub least_le_at : (c : ℕ) (xs : List ℕ) (k d : ℕ) → k < length xs → least c xs ≤ get_or xs k d
least_le_at c [] k d h = omega arith
least_le_at c (x ∷ xs) zero d h = omega arith
least_le_at c (x ∷ xs) (suc k) d h = omega (arith, least_le_at c xs k d (le_of_suc-le-suc h))

-- the greatest number below the cap and below each
pub least_greatest : (c : ℕ) (xs : List ℕ) (n : ℕ) → n ≤ c → ((k : ℕ) → k < length xs → n ≤ get_or xs k 0) → n ≤ least c xs
least_greatest c [] n h each = h
least_greatest c (x ∷ xs) n h each = omega (arith, each 0, least_greatest c xs n h (λ k w. each (suc k) (omega arith)))

some_below_cap : (c : ℕ) (xs : List ℕ) → least c xs < c → 0 < length xs
some_below_cap c [] h = omega arith
some_below_cap c (x ∷ xs) h = omega arith

-- k is the first of the places below n where v is least
record FirstLeast (n : ℕ) (v : ℕ → ℕ) (k : ℕ) : Type 0 where
  within : k < n
  least_one : (j : ℕ) → j < n → v k ≤ v j
  first_one : (j : ℕ) → j < k → v k < v j

first_least_unique : (n : ℕ) (v : ℕ → ℕ) (k l : ℕ) → FirstLeast n v k → FirstLeast n v l → k ≡ l
first_least_unique n v k l first other = elim (cases_order k l) [
  | inl same ↦ same
  | inr (inl before) ↦ omega (arith, first.least_one l other.within, other.first_one k before)
  | inr (inr after) ↦ omega (arith, other.least_one k first.within, first.first_one l after)
]

least_at_first : (c : ℕ) (xs : List ℕ) (k : ℕ) → FirstLeast (length xs) (λ j. get_or xs j 0) k → least c xs ≡ min c (get_or xs k 0)
least_at_first c xs k first = omega (arith, least_le_cap c xs, least_le_at c xs k 0 first.within, least_greatest c xs (min c (get_or xs k 0)) (omega arith) (λ j w. omega (arith, first.least_one j w)))

first_least_is : (xs : List ℕ) → 0 < length xs → FirstLeast (length xs) (λ j. get_or xs j 0) (first_least xs)
first_least_is [] some = absurd (not-suc-le-zero some)
first_least_is (x ∷ xs) some = go (leb x (least x xs)) refl (first_least_is xs)
  where
    go : (b : Bool) → leb x (least x xs) ≡ b → (0 < length xs → FirstLeast (length xs) (λ j. get_or xs j 0) (first_least xs)) → FirstLeast (suc (length xs)) (λ j. get_or (x ∷ xs) j 0) (first_least (x ∷ xs))
    go true e rest = rw e (record {
      within = omega arith;
      least_one = λ j w. omega (arith, leb-true x (least x xs) e, least_le_at x (x ∷ xs) j 0 w);
      first_one = λ j w. omega arith;
    })
    go false e rest =
        let below = leb-false x (least x xs) e in
        let first = rest (some_below_cap x xs below) in
        let smaller : get_or xs (first_least xs) 0 < x = omega (arith, least_at_first x xs (first_least xs) first) in
        rw e (record {
          within = omega arith;
          least_one = elim [ zero ↦ λ w. omega arith | suc j ↦ λ w. first.least_one j (omega arith) ];
          first_one = elim [ zero ↦ λ w. smaller | suc j ↦ λ w. first.first_one j (omega arith) ];
        })

pub length_values : (V : Valuation) (p : Process) (f : ℕ → ℕ) (s : ℕ) → length (values V p f s) ≡ length (p.actions s)
length_values V p f s = length-map (p.actions s) (value V p f)

pub value_at : (V : Valuation) (p : Process) (f : ℕ → ℕ) (s a : ℕ) → a < length (p.actions s) → get_or (values V p f s) a 0 ≡ value V p f (action_at p s a)
value_at V p f s a h = get_or-map (value V p f) (p.actions s) a no_action 0 h

pub backup_le_price : (V : Valuation) (p : Process) (f : ℕ → ℕ) (s : ℕ) → backup V p f s ≤ p.price
backup_le_price V p f s = least_le_cap p.price (values V p f s)

pub backup_le_value : (V : Valuation) (p : Process) (f : ℕ → ℕ) (s a : ℕ) → a < length (p.actions s) → backup V p f s ≤ value V p f (action_at p s a)
backup_le_value V p f s a h = omega (arith, value_at V p f s a h, length_values V p f s, least_le_at p.price (values V p f s) a 0)

pub backup_greatest : (V : Valuation) (p : Process) (f : ℕ → ℕ) (s n : ℕ) → n ≤ p.price → ((a : ℕ) → a < length (p.actions s) → n ≤ value V p f (action_at p s a)) → n ≤ backup V p f s
backup_greatest V p f s n h each = least_greatest p.price (values V p f s) n h (λ a w. omega (arith, length_values V p f s, each a, value_at V p f s a))

pub upper_backup_le_price : (V W : Valuation) (p : Process) (f u : ℕ → ℕ) (s : ℕ) → upper_backup V W p f u s ≤ p.price
upper_backup_le_price V W p f u s = cond_both (ltb (backup V p f s) p.price) _ _ (λ n. n ≤ p.price) (λ _. omega arith) (λ _. omega arith)

-- every outcome of an action of an open state is a state
pub outcomes_known : (p : Process) → InOrder p → (s : ℕ) → s < p.states → p.terminal s ≡ false → (a : ℕ) → a < length (p.actions s) → Each (λ o. o.0 < p.states) (action_at p s a).outcomes
outcomes_known p ok s h live a within = each_map (λ _ known. known.0) _ (each_at (ActionInOrder p s) (p.actions s) a no_action (ok.opens s h live).actions_in_order within).outcomes_known

module _ (V : Valuation) (mono : Monotone V) (p : Process) (ok : InOrder p) (f g : ℕ → ℕ) (below : (s : ℕ) → s < p.states → f s ≤ g s) where
  pub value_mono : (s : ℕ) → s < p.states → p.terminal s ≡ false → (a : ℕ) → a < length (p.actions s) → value V p f (action_at p s a) ≤ value V p g (action_at p s a)
  value_mono s h live a within = mono p.total (action_at p s a).cost f g (action_at p s a).outcomes (each_map (λ o. below o.0) _ (outcomes_known p ok s h live a within))

  pub backup_mono : (s : ℕ) → s < p.states → p.terminal s ≡ false → backup V p f s ≤ backup V p g s
  backup_mono s h live = backup_greatest V p g s (backup V p f s) (backup_le_price V p f s) (λ a within. le_trans (backup_le_value V p f s a within) (value_mono s h live a within))

module _ (V : Valuation) (p : Process) (f : ℕ → ℕ) (s : ℕ) where
  best_is_first_least : 0 < length (p.actions s) → FirstLeast (length (p.actions s)) (λ a. value V p f (action_at p s a)) (best V p f s)
  best_is_first_least some =
      let same = length_values V p f s in
      let first = first_least_is (values V p f s) (omega arith) in
      let within : best V p f s < length (p.actions s) = omega arith in
      let here = value_at V p f s (best V p f s) within in
      record {
        within = within;
        least_one = λ a w. omega (arith, value_at V p f s a w, first.least_one a (omega arith));
        first_one = λ a w. omega (arith, value_at V p f s a (omega arith), first.first_one a w);
      }

  some_action : Worth V p f s → 0 < length (p.actions s)
  some_action worth = omega (arith, length_values V p f s, some_below_cap p.price (values V p f s) worth)

  pub best_within : Worth V p f s → best V p f s < length (p.actions s)
  best_within worth = (best_is_first_least (some_action worth)).within

  pub best_value : Worth V p f s → value V p f (action_at p s (best V p f s)) ≡ backup V p f s
  best_value worth = omega (arith, least_at_first p.price (values V p f s) (best V p f s) (first_least_is (values V p f s) (some_below_cap p.price (values V p f s) worth)), value_at V p f s (best V p f s) (best_within worth))

  pub best_first : (a : ℕ) → a < best V p f s → a < length (p.actions s) → value V p f (action_at p s (best V p f s)) < value V p f (action_at p s a)
  best_first a earlier within = (best_is_first_least (omega arith)).first_one a earlier

  -- the first of the least is the best
  pub best_is : (a : ℕ) → a < length (p.actions s) → ((b : ℕ) → b < length (p.actions s) → value V p f (action_at p s a) ≤ value V p f (action_at p s b)) → ((b : ℕ) → b < a → value V p f (action_at p s a) < value V p f (action_at p s b)) → best V p f s ≡ a
  best_is a within least_one first_one = first_least_unique (length (p.actions s)) (λ b. value V p f (action_at p s b)) (best V p f s) a (best_is_first_least (omega arith)) (record { within = within; least_one = least_one; first_one = first_one })

pub planned_known : (V : Valuation) (p : Process) → InOrder p → (expanded : ℕ → Bool) (f : ℕ → ℕ) (s : ℕ) → InPlan V p expanded f s → s < p.states
planned_known V p ok expanded f _ at_start = ok.start_known
planned_known V p ok expanded f _ (onward t k planned live is_expanded worth h) =
    each_at (λ o. o.0 < p.states) (action_at p t (best V p f t)).outcomes k (0, 0) (outcomes_known p ok t (planned_known V p ok expanded f t planned) live (best V p f t) (best_within V p f t worth)) h

-- settled bounds leave no expansion and no lower backup, and finished ones no upper backup either
module _ {V : Valuation} {p : Process} {x : Bounds} {s : ℕ} where
  pub settled_expands_none : Settled V p x → CanExpand V p x s → ⊥
  settled_expands_none settled can = both_ways (x.expanded s) can.unexpanded (settled.expanded s can.planned can.nonterminal)

  pub settled_raises_none : Settled V p x → CanRaiseLower V p x s → ⊥
  settled_raises_none settled can = omega (arith, settled.backed_up s can.planned can.nonterminal)

  pub finished_raises_none : {W : Valuation} → Finished V W p x → CanRaiseUpper V W p x s → ⊥
  finished_raises_none done can = omega (arith, done.backed_up s can.planned can.nonterminal)
