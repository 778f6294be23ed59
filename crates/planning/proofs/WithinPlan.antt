-- The best action of a planned state leads to planned states only, so backups at it depend on the figures of the plan alone. Assumes nothing.
use Rattle.std.proofs.Common.{◌≡◌, ℕ, ◌≤◌, Bool, true, false, inl, inr, le_refl, arith}
use Rattle.std.proofs.lemmas.Bool.{cases_lt, lt-ltb, le-ltb}
use Rattle.process.specs.Process.{Process, action_at}
use Rattle.process.specs.Valuation.{Valuation, Monotone}
use Rattle.planning.specs.Plan.{value, backup, best, Worth, upper_backup, InPlan, onward}
use Rattle.planning.proofs.Basics.{each_from, backup_le_price, backup_le_value, best_within, best_value}

-- no open state of the plan is left to expand
abbrev pub AllExpanded : Valuation → Process → (ℕ → Bool) → (ℕ → ℕ) → Type 0
AllExpanded V p e f = (s : ℕ) → InPlan V p e f s → p.terminal s ≡ false → e s ≡ true

module _ (V : Valuation) (p : Process) (e : ℕ → Bool) (f : ℕ → ℕ) (expanded : AllExpanded V p e f) where
  module _ (g h : ℕ → ℕ) (below : (r : ℕ) → InPlan V p e f r → g r ≤ h r) (s : ℕ) (planned : InPlan V p e f s) (live : p.terminal s ≡ false) where
    pub best_mono : (U : Valuation) → Monotone U → Worth V p f s → value U p g (action_at p s (best V p f s)) ≤ value U p h (action_at p s (best V p f s))
    best_mono U mono worth = mono _ _ g h _ (each_from (λ o. g o.0 ≤ h o.0) _ (0, 0) (λ k within. below _ (onward s k planned live (expanded s planned live) worth within)))

    pub upper_backup_mono : (W : Valuation) → Monotone W → upper_backup V W p f g s ≤ upper_backup V W p f h s
    upper_backup_mono W mono = elim (cases_lt (backup V p f s) p.price) [
      | inl worth ↦ rw (lt-ltb _ _ worth) (omega (arith, best_mono W mono worth))
      | inr high ↦ rw (le-ltb _ _ high) (le_refl _)
    ]

  pub backup_below : Monotone V → (g : ℕ → ℕ) → ((r : ℕ) → InPlan V p e f r → g r ≤ f r) → (s : ℕ) → InPlan V p e f s → p.terminal s ≡ false → backup V p g s ≤ backup V p f s
  backup_below mono g below s planned live = elim (cases_lt (backup V p f s) p.price) [
    | inl worth ↦ omega (arith, backup_le_value V p g s _ (best_within V p f s worth), best_mono g f below s planned live V mono worth, best_value V p f s worth)
    | inr high ↦ omega (arith, backup_le_price V p g s)
  ]
