use mathlib.Core.Path.{◌≡◌, ap}
use Prim.Native.Nat.{ℕ, ◌+◌, ◌-◌, ◌/◌}
use native.Mathlib.Omega.{arith}
use native.Mathlib.Nat.{div-le_self}
use Rattle.process.proofs.Gathering.{sum_fits}
use Rattle.process.proofs.valuation.UpValuing.close.Goals as goal

pub returns : goal.returns
returns c os same light some =
    let n : ℕ = c.args.all + (c.args.total - 1) in
    let whole : c.saturating_add.result ≡ n = omega (arith, sum_fits os light) in
    rw (← same) (omega (arith, sum_fits os light, ap (λ k. k / c.args.total) whole, div-le_self n c.args.total))
