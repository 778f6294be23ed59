-- One pass over the actions of a state finds the first of the least values below the price. Assumes nothing.
use Rattle.std.proofs.Common.{◌≡◌, ℕ, ◌+◌, ◌<◌, ◌≤◌, Option, Some, None, MatchOption, length, sym, arith}
use native.Mathlib.Decide.{dec_lt}
use Rattle.process.specs.Process.{Process, action_at}
use Rattle.process.specs.Valuation.{Valuation}
use Rattle.planning.specs.Plan.{value, backup}
use Rattle.search.specs.Choosing.{Best}
use Rattle.search.specs.declared.choice.Pick.{Pick}
use Rattle.planning.proofs.Basics.{backup_le_price, backup_le_value, backup_greatest, best_is}

-- what each action of a state is worth
abbrev pub worth_of : Valuation → Process → (ℕ → ℕ) → ℕ → ℕ → ℕ
worth_of V p f s a = value V p f (action_at p s a)

-- the first of the least of the first n values
pub record FirstLeast (v : ℕ → ℕ) (n : ℕ) (pick : Pick) : Type 0 where
  pub within : pick.action < n
  pub here : v pick.action ≡ pick.value
  pub least : (b : ℕ) → b < n → pick.value ≤ v b
  pub first : (b : ℕ) → b < pick.action → pick.value < v b

-- the first of the least of the first n values that are below the cap, if there are any, and what a value has to be below
abbrev pub LeastOf : (ℕ → ℕ) → ℕ → ℕ → Option ℕ → ℕ → Type 0
LeastOf v cap n None bar = (bar ≡ cap) × ((b : ℕ) → b < n → cap ≤ v b)
LeastOf v cap n (Some action) bar = (bar < cap) × FirstLeast v n (record { action = action; value = bar })

module _ (v : ℕ → ℕ) (cap : ℕ) where
  pub least_kept : (n : ℕ) (best : Option ℕ) (bar : ℕ) → LeastOf v cap n best bar → bar ≤ v n → LeastOf v cap (n + 1) best bar
  least_kept n None bar so_far h = (so_far.0, λ b w. elim (dec_lt b n) [ yes below ↦ so_far.1 b below | no above ↦ let e : b ≡ n = omega arith in rw e (omega (arith, so_far.0)) ])
  least_kept n (Some action) bar so_far h = (
    so_far.0,
    record {
      within = omega (arith, so_far.1.within);
      here = so_far.1.here;
      least = λ b w. elim (dec_lt b n) [ yes below ↦ so_far.1.least b below | no above ↦ let e : b ≡ n = omega arith in rw e h ];
      first = so_far.1.first;
    },
  )

  -- what is below the bar is below each value so far
  above_bar : (n : ℕ) (best : Option ℕ) (bar : ℕ) → LeastOf v cap n best bar → (bar ≤ cap) × ((b : ℕ) → b < n → bar ≤ v b)
  above_bar n None bar so_far = (omega (arith, so_far.0), λ b w. omega (arith, so_far.0, so_far.1 b w))
  above_bar n (Some action) bar so_far = (omega (arith, so_far.0), so_far.1.least)

  pub least_found : (n : ℕ) (best : Option ℕ) (bar : ℕ) → LeastOf v cap n best bar → (x : ℕ) → x ≡ v n → x < bar → LeastOf v cap (n + 1) (Some n) x
  least_found n best bar so_far x told h =
      let above = above_bar n best bar so_far in (
        omega (arith, above.0),
        record {
          within = omega arith;
          here = sym told;
          least = λ b w. elim (dec_lt b n) [ yes below ↦ omega (arith, above.1 b below) | no above ↦ let e : b ≡ n = omega arith in rw e (omega arith) ];
          first = λ b below. omega (arith, above.1 b below);
        },
      )

module _ (V : Valuation) (p : Process) (f : ℕ → ℕ) (s n bar : ℕ) (whole : n ≡ length (p.actions s)) where
  -- where no action is below the price, the backup is the price
  pub chosen : (best : Option ℕ) → LeastOf (worth_of V p f s) p.price n best bar → MatchOption best (backup V p f s ≡ p.price) (λ action. Best V p f s (record { action = action; value = bar }))
  chosen None none = omega (arith, backup_le_price V p f s, backup_greatest V p f s p.price (omega arith) (λ a h. none.1 a (omega arith)))
  chosen (Some action) one =
      let is : bar ≡ backup V p f s = omega (arith, backup_le_value V p f s action (omega (arith, one.1.within)), one.1.here, backup_greatest V p f s bar (omega (arith, one.0)) (λ a h. one.1.least a (omega arith))) in
      record {
        worth = omega (arith, one.0, is);
        within = omega (arith, one.1.within);
        action_is = sym (best_is V p f s action (omega (arith, one.1.within)) (λ b h. omega (arith, one.1.here, one.1.least b (omega arith))) (λ b h. omega (arith, one.1.here, one.1.first b h)));
        value_is = is;
      }
