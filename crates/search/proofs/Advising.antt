-- The advice of the best action. Assumes nothing.
use Rattle.std.proofs.Common.{◌≡◌, ℕ, false}
use Rattle.process.specs.Process.{Process}
use Rattle.process.specs.Valuation.{Valuation}
use Rattle.planning.specs.Plan.{Advised, by_best}
use Rattle.planning.specs.Steps.{Bounds, Planned}
use Rattle.planning.specs.declared.Advice.TheVariants.{Act}
use Rattle.search.specs.Choosing.{Best}
use Rattle.search.specs.declared.choice.Pick.{Pick}

pub advised_best : (V : Valuation) (p : Process) (x : Bounds) (s : ℕ) (pick : Pick) → Best V p x.lower s pick → p.terminal s ≡ false → Planned V p x s → (x.upper s ≡ p.price → ⊥) → Advised V p x.expanded x.lower x.upper s (Act pick.action)
advised_best V p x s pick one live planned other = rw one.action_is (by_best live planned one.worth other)
