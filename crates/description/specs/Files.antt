-- What is told of a table file: the model that it means, or its first fault.
use Rattle.std.specs.Prelude.{◌≡◌, ℕ, true, ◌⊎◌, List, ◌++◌}
use Rattle.faults.specs.declared.LoadFault.{LoadFault}
use Rattle.rcm.specs.Format.{version_1}
use Rattle.rcm.specs.Layout.{decoded}
use Rattle.faults.specs.Causes.{layer, refusal_text}
use Rattle.rcm.specs.Checks.{Sound, FirstFault}
use Rattle.description.specs.Texts.{feed, described}

-- the file keeps the layout, and the text describes what it means
abbrev pub Meant : List ℕ → List ℕ → Type 0
Meant b text = Sound version_1 b × (text ≡ described true (decoded version_1 b))

-- a check fails, none before it, and the text is the line of that refusal
abbrev pub Refused : List ℕ → List ℕ → Type 0
Refused b text =
    (f : LoadFault)
    × (f.layer ≡ layer f.fault.cause)
    × FirstFault version_1 b f.fault.cause f.fault.«record» f.fault.byte
    × (text ≡ refusal_text f ++ feed)

abbrev pub Reported : List ℕ → List ℕ → Type 0
Reported b text = Meant b text ⊎ Refused b text
