-- Steps that can be made, made one after another, are a run. Assumes nothing.
use Rattle.std.proofs.Common.{◌≡◌, ℕ, ◌+◌, ◌<◌, Bool, ◌∙◌, add-one, arith}
use Rattle.process.specs.Process.{Process, Told}
use Rattle.process.specs.Valuation.{Valuation}
use Rattle.planning.specs.Plan.{at_start, onward}
use Rattle.planning.specs.Steps.{Bounds, Planned, Run, none, then_expand, then_raise_lower, then_raise_upper}
use Rattle.search.specs.Making.{Made, state_of, counted}
use Rattle.search.specs.Stepping.{Next}
use Rattle.search.specs.declared.step.Step.{Step}
use Rattle.search.specs.declared.step.Step.TheVariants.{Expand, RaiseLower, RaiseUpper}
use Rattle.search.specs.declared.step.Tally.{Tally}
use Rattle.search.proofs.ActionValue.{taken}
use Rattle.search.proofs.Beginning.{start_within}
use Rattle.planning.proofs.Basics.{best_within}

-- so many steps lead from x to y
pub record Ran (V W : Valuation) (p : Process) (x y : Bounds) (made : ℕ) (t : Tally) : Type 0 where
  pub run : Run V W p x y t.expansions t.backups
  pub as_many : t.expansions + t.backups ≡ made

-- a step counts once
counted_one : (step : Step) (t : Tally) → (counted step t).expansions + (counted step t).backups ≡ t.expansions + t.backups + 1
counted_one (Expand s) t = omega arith
counted_one (RaiseLower s n) t = omega arith
counted_one (RaiseUpper s n) t = omega arith

module _ (V W : Valuation) (p : Process) where
  planned_within : (b : Bool) → Told p b → (x : Bounds) {s : ℕ} → Planned V p x s → s < 1024
  planned_within b told x at_start = start_within p b told
  planned_within b told x (onward t k planned live is_expanded worth h) = (taken p b told t _ (best_within V p x.lower t worth)).places k h

  next_planned : (x : Bounds) (step : Step) → Next V W p x step → Planned V p x (state_of step)
  next_planned x (Expand s) next = next.planned
  next_planned x (RaiseLower s n) next = next.0.planned
  next_planned x (RaiseUpper s n) next = next.0.planned

  pub next_within : (b : Bool) → Told p b → (x : Bounds) (step : Step) → Next V W p x step → state_of step < 1024
  next_within b told x step next = planned_within b told x (next_planned x step next)

  pub ran_none : (x : Bounds) (t : Tally) → (t.expansions ≡ 0) × (t.backups ≡ 0) → Ran V W p x x 0 t
  ran_none x t fresh = record { run = rw (fresh.0, fresh.1) none; as_many = omega arith }

  run_more : (x y z : Bounds) (step : Step) (t : Tally) → Next V W p y step → Made step y z → Run V W p x y t.expansions t.backups → Run V W p x z (counted step t).expansions (counted step t).backups
  run_more x y z (Expand s) t next made run = rw add-one (then_expand s run (record { can = next; expanded = made.0; same_lower = made.1; same_upper = made.2 }))
  run_more x y z (RaiseLower s n) t next made run = rw add-one (then_raise_lower {z = z} s run (record {
    can = next.0;
    same_expanded = made.0;
    lower = record { here = made.1.here ∙ next.1; others = made.1.others };
    same_upper = made.2;
  }))
  run_more x y z (RaiseUpper s n) t next made run = rw add-one (then_raise_upper {z = z} s run (record {
    can = next.0;
    same_expanded = made.0;
    same_lower = made.1;
    upper = record { here = made.2.here ∙ next.1; others = made.2.others };
  }))

  module _ (x y : Bounds) (made : ℕ) (t : Tally) (ran : Ran V W p x y made t) where
    pub ran_more : (z : Bounds) (step : Step) (u : Tally) → Next V W p y step → Made step y z → u ≡ counted step t → Ran V W p x z (made + 1) u
    ran_more z step u next does told = rw told (record { run = run_more x y z step t next does ran.run; as_many = omega (arith, counted_one step t, ran.as_many) })
