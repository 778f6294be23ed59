use Rattle.search.proofs.Adding.{nothing_listed}
use Rattle.search.proofs.found.Found.new.Goals as goal

pub invariant_of-result : goal.invariant_of-result
invariant_of-result c = nothing_listed
