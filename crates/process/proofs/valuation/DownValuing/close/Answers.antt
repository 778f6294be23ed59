use native.Mathlib.Omega.{arith}
use native.Mathlib.Nat.{div-le_self}
use Rattle.process.proofs.Gathering.{sum_fits}
use Rattle.process.proofs.valuation.DownValuing.close.Goals as goal

pub returns : goal.returns
returns c os same light some = rw (← same) (omega (arith, sum_fits os light, div-le_self c.args.all c.args.total))
