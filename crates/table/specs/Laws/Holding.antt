-- A table that holds a file is in order; one with nothing tells nothing.
use Rattle.std.specs.Prelude.{◌≡◌, true, Option, Some, None, IfSome, MatchOption, ℕ, List, []}
use Rattle.std.proofs.Common.{sym, ◌∙◌}
use mathlib.Core.Bool.{false≢true}
use Rattle.process.specs.Process.{Told}
use Rattle.rcm.specs.declared.frame.Framed.{Framed}
use Rattle.rcm.specs.Format.{version_1}
use Rattle.rcm.specs.Layout.{told, some_bytes}
use Rattle.rcm.specs.Checks.{Sound}
use Rattle.table.specs.Held.{held}
use Rattle.table.specs.Laws.Telling.{table_told}

pub held_sound : (file : Option Framed) → IfSome file (λ f. Sound version_1 f.bytes.now) → some_bytes (held file) ≡ true → Sound version_1 (held file)
held_sound None kept some = absurd (false≢true some)
held_sound (Some f) kept some = kept

-- a table is a model
pub held_told : (file : Option Framed) → IfSome file (λ f. Sound version_1 f.bytes.now) → Told (told version_1 (held file)) (some_bytes (held file))
held_told file kept = table_told (held file) (held_sound file kept)

-- what a file tells is told of its bytes, and zeros of none
pub told_of_held : {R : Type 0} (tell : List ℕ → R) (file : Option Framed) (zeros r : R) → tell [] ≡ zeros →
    MatchOption file (r ≡ zeros) (λ f. r ≡ tell f.bytes.now) → r ≡ tell (held file)
told_of_held tell None zeros r none e = e ∙ sym none
told_of_held tell (Some f) zeros r none e = e
