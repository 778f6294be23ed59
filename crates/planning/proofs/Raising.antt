-- Figures that are raised one at a time: what they stay below, and that raising them comes to an end. Assumes nothing.
use Rattle.std.proofs.Common.{◌≡◌, ℕ, zero, suc, ◌+◌, ◌*◌, ◌<◌, ◌≤◌, true, false, cond, eqb, ◌⊎◌, sym, refl, subst, inl, inr, ⊎_elim, le_refl, le_antisymm, arith}
use mathlib.Core.Path.{fun_ext}
use Rattle.std.proofs.lemmas.Bool.{both_ways, eq-eqb, ne_eqb, cases_lt, cases_eq, cases_Bool}
use Rattle.process.specs.Process.{Process, InOrder}
use Rattle.process.specs.Valuation.{Valuation}
use Rattle.planning.specs.Plan.{backup, upper_backup}
use Rattle.planning.specs.Steps.{Written, Alike}
use Rattle.planning.proofs.Basics.{written_each, backup_le_price}
use Rattle.planning.proofs.Sums.{sum_below, sum_grows, sum_capped}

-- t comes from f: each raise writes at one open state the figure that B gives for it, which is greater
pub data Raised (p : Process) (B : (ℕ → ℕ) → ℕ → ℕ) (f : ℕ → ℕ) : (ℕ → ℕ) → Type 0 where
  begin : {t : ℕ → ℕ} → Alike f t → Raised p B f t
  raise : {t u : ℕ → ℕ} (s : ℕ) → Raised p B f t → p.terminal s ≡ false → t s < B t s → Written t u s (B t s) → Raised p B f u

abbrev pub RaisedLower : Valuation → Process → (ℕ → ℕ) → Type 0
RaisedLower V p t = Raised p (backup V p) p.estimate t

-- over the lower figures f
abbrev pub RaisedUpper : Valuation → Valuation → Process → (ℕ → ℕ) → (ℕ → ℕ) → Type 0
RaisedUpper V W p f u = Raised p (upper_backup V W p f) (λ _. 0) u

module _ {p : Process} {B : (ℕ → ℕ) → ℕ → ℕ} {f : ℕ → ℕ} where
  pub raised_same : {t u : ℕ → ℕ} → Alike t u → Raised p B f t → Raised p B f u
  raised_same same made = subst (Raised p B f) (sym (fun_ext same)) made

  pub raised_above : {t : ℕ → ℕ} → Raised p B f t → (s : ℕ) → f s ≤ t s
  raised_above (begin same) = λ s. omega (arith, same s)
  raised_above (raise s made live higher now) = written_each now (λ r n. f r ≤ n) (omega (arith, raised_above made s)) (λ r _. raised_above made r)

  -- raised figures stay below g at the states of Q, where the first ones do, and what B gives there for figures that do
  pub raised_below : (Q : ℕ → Type 0) (g : ℕ → ℕ) → ((s : ℕ) → Q s → f s ≤ g s) → ((h : ℕ → ℕ) → ((r : ℕ) → Q r → h r ≤ g r) → (s : ℕ) → Q s → p.terminal s ≡ false → B h s ≤ g s) → {t : ℕ → ℕ} → Raised p B f t → (s : ℕ) → Q s → t s ≤ g s
  raised_below Q g first kept (begin same) = λ s q. omega (arith, same s, first s q)
  raised_below Q g first kept (raise {t = t} s made live higher now) =
      written_each now (λ r n. Q r → n ≤ g r) (λ q. kept t (raised_below Q g first kept made) s q live) (λ r _. raised_below Q g first kept made r)

  pub raised_terminal : {t : ℕ → ℕ} → Raised p B f t → (s : ℕ) → p.terminal s ≡ true → t s ≡ f s
  raised_terminal made s end =
      le_antisymm (raised_below (λ r. p.terminal r ≡ true) f (λ r _. le_refl (f r)) (λ _ _ r ended live. absurd (both_ways (p.terminal r) live ended)) made s end) (raised_above made s)

  pub raised_capped : ((s : ℕ) → s < p.states → f s ≤ p.price) → ((t : ℕ → ℕ) (s : ℕ) → B t s ≤ p.price) → {t : ℕ → ℕ} → Raised p B f t → (s : ℕ) → s < p.states → t s ≤ p.price
  raised_capped first capped made = raised_below (λ s. s < p.states) (λ _. p.price) first (λ h _ s _ _. capped h s) made

pub lower_capped : (V : Valuation) (p : Process) → InOrder p → {t : ℕ → ℕ} → RaisedLower V p t → (s : ℕ) → s < p.states → t s ≤ p.price
lower_capped V p ok made = raised_capped ok.estimate_capped (backup_le_price V p) made

-- a state below n of the first kind, or all of them of the second
find : (P Q : ℕ → Type 0) → ((s : ℕ) → P s ⊎ Q s) → (n : ℕ) → ((s : ℕ) × (s < n) × P s) ⊎ ((s : ℕ) → s < n → Q s)
find P Q either zero = inr (λ s h. absurd (omega arith))
find P Q either (suc n) = elim (either n) [
  | inl here ↦ inl (n, omega arith, here)
  | inr here ↦ elim (find P Q either n) [
    | inl found ↦ inl (found.0, omega (arith, found.1), found.2)
    | inr all ↦ inr (λ r h. elim (cases_eq r n) [ inl e ↦ rw e here | inr apart ↦ all r (omega arith) ])
  ]
]

write : (t : ℕ → ℕ) (s n : ℕ) → (u : ℕ → ℕ) × Written t u s n
write t s n = (λ r. cond (eqb r s) n (t r), record { here = rw (eq-eqb s s refl); others = λ r apart. rw (ne_eqb r s apart) })

-- no open state is left to raise
abbrev pub Closed : Process → ((ℕ → ℕ) → ℕ → ℕ) → (ℕ → ℕ) → Type 0
Closed p B t = (s : ℕ) → s < p.states → p.terminal s ≡ false → B t s ≤ t s

-- where nothing passes the price, raising ends
module _ (p : Process) (B : (ℕ → ℕ) → ℕ → ℕ) (f : ℕ → ℕ) (first : (s : ℕ) → s < p.states → f s ≤ p.price) (capped : (t : ℕ → ℕ) (s : ℕ) → B t s ≤ p.price) where
  abbrev Raisable : (ℕ → ℕ) → ℕ → Type 0
  Raisable t s = (p.terminal s ≡ false) × (t s < B t s)

  raisable : (t : ℕ → ℕ) (s : ℕ) → Raisable t s ⊎ (p.terminal s ≡ false → B t s ≤ t s)
  raisable t s = elim (cases_lt (t s) (B t s)) [
    | inr low ↦ inr (λ _. low)
    | inl higher ↦ elim (cases_Bool (p.terminal s)) [ inl end ↦ inr (λ live. absurd (both_ways (p.terminal s) live end)) | inr live ↦ inl (live, higher) ]
  ]

  raised_at : (t : ℕ → ℕ) → Raised p B f t → (s : ℕ) → s < p.states → Raisable t s → (u : ℕ → ℕ) × Raised p B f u × (sum_below t p.states < sum_below u p.states)
  raised_at t made s h can =
      let u = write t s (B t s) in
      (u.0, raise s made can.0 can.1 u.1, sum_grows t u.0 p.states s h (omega (arith, u.1.here, can.1)) (λ r apart _. omega (arith, u.1.others r apart)))

  climb : (fuel : ℕ) (t : ℕ → ℕ) → Raised p B f t → p.states * p.price < sum_below t p.states + fuel → (u : ℕ → ℕ) × Raised p B f u × Closed p B u
  climb zero t made room = absurd (omega (arith, sum_capped t p.price p.states (raised_capped first capped made)))
  climb (suc fuel) t made room =
      ⊎_elim (λ found. let more = raised_at t made found.0 found.1 found.2 in climb fuel more.0 more.1 (omega (arith, more.2)))
      (λ closed. (t, made, closed)) (find _ _ (raisable t) p.states)

  pub raised_closed : (u : ℕ → ℕ) × Raised p B f u × Closed p B u
  raised_closed = climb (p.states * p.price + 1) f (begin (λ s. refl)) (omega arith)
