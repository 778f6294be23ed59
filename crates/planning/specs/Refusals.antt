-- The number of each refusal of a call. (Those of a file are 1 to 10.)
use Rattle.std.specs.Prelude.{ℕ}
use Rattle.planning.specs.declared.Refusal.{Refusal}
use Rattle.planning.specs.declared.Refusal.TheVariants.{OutOfOrder, UnknownState, Unfinished}

abbrev pub number : Refusal → ℕ
number OutOfOrder = 11
number UnknownState = 12
number Unfinished = 13
