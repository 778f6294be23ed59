use Rattle.process.proofs.Gathering.{weighed}
use Rattle.process.proofs.valuation.DownValuing.gather.Goals as goal

pub returns : goal.returns
returns c os same light = weighed os _ _ _ _ same light (cc)
