-- The number and the layer of each cause, and the text of a refusal.
use Rattle.std.specs.Prelude.{ℕ, List, ◌++◌, codes, decimal}
use Rattle.faults.specs.declared.Cause.{Cause}
use Rattle.faults.specs.declared.Cause.TheVariants.{Length, Opening, Header, Sections, StateField, ActionField, OutcomeField, Counts, Weights, Consistency}
use Rattle.faults.specs.declared.Layer.{Layer}
use Rattle.faults.specs.declared.Layer.TheVariants.{File, Record, Rule}
use Rattle.faults.specs.declared.LoadFault.{LoadFault}
use Rattle.faults.specs.declared.Place.{Place}
use Rattle.faults.specs.declared.Place.TheVariants.{InHeader, InState, InAction, InOutcome}

abbrev pub number : Cause → ℕ
number Length = 1
number Opening = 2
number Header = 3
number Sections = 4
number StateField = 5
number ActionField = 6
number OutcomeField = 7
number Counts = 8
number Weights = 9
number Consistency = 10

abbrev pub layer : Cause → Layer
layer Length = File
layer Opening = File
layer Header = File
layer Sections = File
layer StateField = Record
layer ActionField = Record
layer OutcomeField = Record
layer Counts = Record
layer Weights = Rule
layer Consistency = Rule

-- the cause of a field's fault
abbrev pub cause : Place → Cause
cause InHeader = Header
cause InState = StateField
cause InAction = ActionField
cause InOutcome = OutcomeField

abbrev pub layer_text : Layer → List ℕ
layer_text File = codes "file"
layer_text Record = codes "record"
layer_text Rule = codes "rule"

-- what is printed of a refused load, without the line feed
abbrev pub refusal_text : LoadFault → List ℕ
refusal_text e =
    codes "refused " ++ (decimal (number e.fault.cause) ++ (codes " " ++ (layer_text e.layer ++ (codes " " ++ (decimal e.fault.«record» ++ (codes " " ++ decimal e.fault.byte))))))
