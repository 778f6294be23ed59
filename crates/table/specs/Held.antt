-- The bytes that a table holds: those of its file, or none.
use Rattle.std.specs.Prelude.{ℕ, List, [], Option, Some, None}
use Rattle.rcm.specs.declared.frame.Framed.{Framed}

abbrev pub held : Option Framed → List ℕ
held None = []
held (Some f) = f.bytes.now
