-- The lines at the beginning: filled in one by one from the estimates. Assumes nothing.
use Rattle.std.proofs.Common.{◌≡◌, ℕ, ◌+◌, ◌<◌, ◌≤◌, Bool, true, false, List, length, get_or, set, sym, refl, ap, ◌∙◌, arith, length-set}
use native.Mathlib.Decide.{dec_lt}
use Rattle.process.specs.Process.{Process, Told}
use Rattle.planning.specs.Steps.{Begun}
use Rattle.search.specs.Lines.{blank, bounds_of}
use Rattle.search.specs.declared.bounds.Line.{Line}
use Rattle.std.proofs.lemmas.List.{get_or_past}
use Rattle.search.proofs.Lookups.{at_set}

-- a line before any step
abbrev pub fresh : ℕ → Line
fresh estimate = record { expanded = false; lower = estimate; upper = 0 }

-- the lines below s have their estimates
pub record Filled (estimate : ℕ → ℕ) (s : ℕ) (lines : List Line) : Type 0 where
  pub as_many : length lines ≡ 1024
  pub done : (k : ℕ) → k < s → get_or lines k blank ≡ fresh (estimate k)

pub filled_more : (estimate : ℕ → ℕ) (s : ℕ) (lines : List Line) (n : ℕ) → s < 1024 → Filled estimate s lines → n ≡ estimate s → Filled estimate (s + 1) (set lines s (fresh n))
filled_more estimate s lines n h filled told = record {
  as_many = simp length-set filled.as_many;
  done = λ k w. at_set (λ line. line ≡ fresh (estimate k)) lines s k (fresh n) blank (omega (arith, filled.as_many)) (λ e. ap fresh (told ∙ ap estimate (sym e))) (λ e. filled.done k (omega arith));
}

pub states_few : (p : Process) (b : Bool) → Told p b → p.states ≤ 1024
states_few p true told = (told.in_order refl).states_few
states_few p false told = rw (told.nothing refl) (omega arith)

pub filled_all : (p : Process) (b : Bool) (s : ℕ) (lines : List Line) → Told p b → 1024 ≤ s → Filled p.estimate s lines → Begun p (bounds_of (record { lines = lines }))
filled_all p b s lines told h filled = record {
  expanded = λ k. ap (λ (line : Line). line.expanded) (all k);
  lower = λ k. ap (λ (line : Line). line.lower) (all k);
  upper = λ k. ap (λ (line : Line). line.upper) (all k);
}
  where
    all : (k : ℕ) → get_or lines k blank ≡ fresh (p.estimate k)
    all k = elim (dec_lt k s) [
      | yes below ↦ filled.done k below
      | no above ↦ get_or_past lines k blank (omega (arith, filled.as_many)) ∙ ap fresh (sym (told.outside k (omega (arith, states_few p b told))).1)
    ]

pub start_within : (p : Process) (b : Bool) → Told p b → p.start < 1024
start_within p true told = omega (arith, (told.in_order refl).start_known, (told.in_order refl).states_few)
start_within p false told = rw (told.nothing refl) (omega arith)
