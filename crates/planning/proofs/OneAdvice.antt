-- Each state has at most one advice. Assumes nothing.
use Rattle.std.proofs.Common.{◌≡◌, ℕ, ◌≤◌, Bool, true, false, ◌⊎◌, refl, inl, inr, arith}
use Rattle.process.specs.Process.{Process}
use Rattle.process.specs.Valuation.{Valuation}
use Rattle.planning.specs.declared.Advice.{Advice}
use Rattle.planning.specs.declared.Advice.TheVariants.{Act, WriteOff, Ending, NotReached}
use Rattle.planning.specs.Plan.{backup, best, Worth, InPlan, Advised, at_terminal, outside, not_worth, at_price, by_best}

module _ (V : Valuation) (p : Process) (e : ℕ → Bool) (f u : ℕ → ℕ) (s : ℕ) where
  -- what an advice says of the state
  abbrev Says : Advice → Type 0
  Says Ending = p.terminal s ≡ true
  Says NotReached = (p.terminal s ≡ false) × (InPlan V p e f s → ⊥)
  Says WriteOff = (p.terminal s ≡ false) × InPlan V p e f s × ((p.price ≤ backup V p f s) ⊎ (u s ≡ p.price))
  Says (Act a) = (p.terminal s ≡ false) × InPlan V p e f s × Worth V p f s × (u s ≡ p.price → ⊥) × (a ≡ best V p f s)

  says : {c : Advice} → Advised V p e f u s c → Says c
  says (at_terminal end) = end
  says (outside live out) = (live, out)
  says (not_worth live planned high) = (live, planned, inl high)
  says (at_price live planned level) = (live, planned, inr level)
  says (by_best live planned worth unlevel) = (live, planned, worth, unlevel, refl)

pub advised_once : {V : Valuation} {p : Process} {e : ℕ → Bool} {f u : ℕ → ℕ} {s : ℕ} {c d : Advice} → Advised V p e f u s c → Advised V p e f u s d → c ≡ d
advised_once {V} {p} {e} {f} {u} {s} {c} {d} one other = let first = says V p e f u s one in let second = says V p e f u s other in grind arith
