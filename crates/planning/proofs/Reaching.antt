-- What holds at the beginning, and is kept by every step, holds of all bounds that calls reach. Assumes nothing.
use Rattle.std.proofs.Common.{ℕ, List}
use Rattle.process.specs.Process.{Process}
use Rattle.process.specs.Valuation.{Valuation}
use Rattle.planning.specs.declared.Call.{Call}
use Rattle.planning.specs.Steps.{Bounds, Begun, Expansion, LowerBackup, UpperBackup, Run, none, then_expand, then_raise_lower, then_raise_upper, Reached, begun, worked, told, advised}

pub record Invariant (V W : Valuation) (p : Process) (P : Bounds → Type 0) : Type 0 where
  pub by_expansion : (x y : Bounds) (s : ℕ) → P x → Expansion V p x y s → P y
  pub by_lower : (x y : Bounds) (s : ℕ) → P x → LowerBackup V p x y s → P y
  pub by_upper : (x y : Bounds) (s : ℕ) → P x → UpperBackup V W p x y s → P y

module _ (V W : Valuation) (p : Process) (P : Bounds → Type 0) (kept : Invariant V W p P) where
  pub run_keeps : {x y : Bounds} {e b : ℕ} → P x → Run V W p x y e b → P y
  run_keeps held none = held
  run_keeps held (then_expand {y = y} {z = z} s run step) = kept.by_expansion y z s (run_keeps held run) step
  run_keeps held (then_raise_lower {y = y} {z = z} s run step) = kept.by_lower y z s (run_keeps held run) step
  run_keeps held (then_raise_upper {y = y} {z = z} s run step) = kept.by_upper y z s (run_keeps held run) step

  pub reached_keeps : ((x : Bounds) → Begun p x → P x) → {cs : List Call} {x : Bounds} → Reached V W p cs x → P x
  reached_keeps first (begun {x = x} start) = first x start
  reached_keeps first (worked budget e b reached done) = run_keeps (reached_keeps first reached) done.run
  reached_keeps first (told reached) = reached_keeps first reached
  reached_keeps first (advised s reached) = reached_keeps first reached
