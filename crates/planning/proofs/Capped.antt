-- No figure passes the price. Assumes nothing.
use Rattle.std.proofs.Common.{ℕ, ◌<◌, ◌≤◌, List, arith}
use Rattle.process.specs.Process.{Process, InOrder}
use Rattle.process.specs.Valuation.{Valuation}
use Rattle.planning.specs.declared.Call.{Call}
use Rattle.planning.specs.Steps.{Bounds, Reached}
use Rattle.planning.proofs.Basics.{upper_backup_le_price}
use Rattle.planning.proofs.Raising.{raised_below, lower_capped}
use Rattle.planning.proofs.RaisedBounds.{reached_raised}

pub record Capped (p : Process) (x : Bounds) : Type 0 where
  pub lower : (s : ℕ) → s < p.states → x.lower s ≤ p.price
  pub upper : (s : ℕ) → x.upper s ≤ p.price

pub reached_capped : (V W : Valuation) (p : Process) → InOrder p → {cs : List Call} {x : Bounds} → Reached V W p cs x → Capped p x
reached_capped V W p ok {x = x} reached =
    let made = reached_raised V W p reached in
    record {
      lower = lower_capped V p ok made.lower;
      upper = λ s. raised_below (λ _. Unit {0}) (λ _. p.price) (λ _ _. omega arith) (λ u _ r _ _. upper_backup_le_price V W p x.lower u r) made.upper s tt;
    }
