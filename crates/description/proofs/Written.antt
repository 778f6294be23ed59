-- A turn of a loop that writes f 0, f 1, .. one after the other.
use Rattle.std.proofs.Common.{ℕ, ◌+◌, List}
use Rattle.std.proofs.Output.{has_written_append}
use Rattle.std.specs.Fmt.{HasWritten}
use Rattle.std.specs.declared.fmt.Formatter.{Formatter}
use Rattle.description.specs.Texts.{joined, joined_more}

pub written_more : {W : Type 0} {took : W → List ℕ → W → Type 0} (f : ℕ → List ℕ) (n : ℕ) (before middle after : Formatter W) → HasWritten took before (joined n f) middle → HasWritten took middle (f n) after → HasWritten took before (joined (n + 1) f) after
written_more f n before middle after some one = rw joined_more (has_written_append _ _ _ _ _ _ some one)
