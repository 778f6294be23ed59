-- The bytes of a framed file.
use Rattle.std.specs.Prelude.{ℕ, List}
use Rattle.rcm.specs.declared.frame.Framed.{Framed}

abbrev pub bytes_of : Framed → List ℕ
bytes_of f = f.bytes.now
