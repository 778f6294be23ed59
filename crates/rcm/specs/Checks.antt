-- The checks of a table file, and which of them is the first to fail.
use Rattle.std.specs.Prelude.{◌≡◌, ℕ, ◌+◌, ◌*◌, ◌<◌, ◌≤◌, cond, ◌⊎◌, List, length, ◌==◌, ◌≢◌, slice_index}
use Rattle.process.specs.Process.{weights, weighted}
use Rattle.faults.specs.declared.Cause.{Cause}
use Rattle.faults.specs.declared.Cause.TheVariants.{Length, Opening, Header, Sections, StateField, ActionField, OutcomeField, Counts, Weights, Consistency}
use Rattle.rcm.specs.declared.records.Head.{Head}
use Rattle.rcm.specs.declared.records.StateRecord.{StateRecord}
use Rattle.rcm.specs.declared.records.ActionRecord.{ActionRecord}
use Rattle.rcm.specs.declared.records.OutcomeRecord.{OutcomeRecord}
use Rattle.faults.specs.Causes.{number}
use Rattle.faults.specs.Limits.{Within}
use Rattle.rcm.specs.Format.{Format, u16_at}
use Rattle.rcm.specs.Layout.{head_of, is_terminal, states, actions, outcomes, price, state_byte, action_byte, outcome_byte, sections_end, state_record, action_record, outcome_record, estimate, action_count, outcome_count, outcomes_of, sum_below}

-- ## The fields with a rule, and where they stand in their record

-- the one part of what is checked as a whole
pub data Whole : Type 0 where
  whole : Whole

pub data OpeningPart : Type 0 where
  Mark : OpeningPart
  Version : OpeningPart

pub data HeaderPart : Type 0 where
  States : HeaderPart
  Start : HeaderPart
  Actions : HeaderPart
  Outcomes : HeaderPart
  Price : HeaderPart

pub data StatePart : Type 0 where
  Kind : StatePart
  Estimate : StatePart
  FirstAction : StatePart
  ActionCount : StatePart

pub data ActionPart : Type 0 where
  Cost : ActionPart
  FirstOutcome : ActionPart
  OutcomeCount : ActionPart

pub data OutcomePart : Type 0 where
  Target : OutcomePart
  Weight : OutcomePart

abbrev pub whole_offset : Whole → ℕ
whole_offset _ = 0

abbrev pub opening_offset : OpeningPart → ℕ
opening_offset Mark = 0
opening_offset Version = 3

abbrev pub header_offset : HeaderPart → ℕ
header_offset States = 5
header_offset Start = 7
header_offset Actions = 9
header_offset Outcomes = 11
header_offset Price = 13

abbrev pub state_offset : StatePart → ℕ
state_offset Kind = 0
state_offset Estimate = 1
state_offset FirstAction = 5
state_offset ActionCount = 7

abbrev pub action_offset : ActionPart → ℕ
action_offset Cost = 0
action_offset FirstOutcome = 4
action_offset OutcomeCount = 6

abbrev pub outcome_offset : OutcomePart → ℕ
outcome_offset Target = 0
outcome_offset Weight = 2

-- ## The rules

-- a file is long enough for its header, and not too long
abbrev pub LengthRule : Format → List ℕ → Whole → Type 0
LengthRule F b _ = Within F.header_width F.bytes_most (length b)

-- the mark is the text RCM
abbrev pub OpeningRule : Format → List ℕ → OpeningPart → Type 0
OpeningRule F b Mark = (slice_index b 0 ≡ 82) × (slice_index b 1 ≡ 67) × (slice_index b 2 ≡ 77)
OpeningRule F b Version = u16_at b 3 ≡ F.version

-- without actions there are no outcomes
abbrev pub HeaderRule : Format → Head → HeaderPart → Type 0
HeaderRule F h States = Within 1 F.states_most h.states
HeaderRule F h Start = h.start < h.states
HeaderRule F h Actions = h.actions ≤ F.actions_most
HeaderRule F h Outcomes = h.outcomes ≤ cond (h.actions == 0) 0 F.outcomes_most
HeaderRule F h Price = Within 1 F.price_most h.price

-- the file ends with its last section
abbrev pub SectionsRule : Format → List ℕ → Whole → Type 0
SectionsRule F b _ = length b ≡ sections_end F b

-- a limit that is 0 for a terminal state
abbrev pub unless_terminal : StateRecord → ℕ → ℕ
unless_terminal r most = cond (is_terminal r) 0 most

-- a state's record, in a file with this price, after so many actions of the states before it
abbrev pub StateRule : Format → ℕ → ℕ → StateRecord → StatePart → Type 0
StateRule F p before r Kind = r.kind ≤ 1
StateRule F p before r Estimate = r.estimate ≤ unless_terminal r p
StateRule F p before r FirstAction = r.first ≡ before
StateRule F p before r ActionCount = r.count ≤ unless_terminal r F.actions_of_state_most

-- an action's record, after so many outcomes of the actions before it
abbrev pub ActionRule : Format → ℕ → ActionRecord → ActionPart → Type 0
ActionRule F before r Cost = Within 1 F.cost_most r.cost
ActionRule F before r FirstOutcome = r.first ≡ before
ActionRule F before r OutcomeCount = Within 1 F.outcomes_of_action_most r.count

-- an outcome's record, in a file with so many states
abbrev pub OutcomeRule : Format → ℕ → OutcomeRecord → OutcomePart → Type 0
OutcomeRule F n r Target = r.state < n
OutcomeRule F n r Weight = Within 1 F.total r.weight

abbrev pub StatesRule : Format → List ℕ → ℕ → StatePart → Type 0
StatesRule F b s = StateRule F (price b) (sum_below (action_count F b) s) (state_record F b s)

abbrev pub ActionsRule : Format → List ℕ → ℕ → ActionPart → Type 0
ActionsRule F b a = ActionRule F (sum_below (outcome_count F b) a) (action_record F b a)

abbrev pub OutcomesRule : Format → List ℕ → ℕ → OutcomePart → Type 0
OutcomesRule F b o = OutcomeRule F (states b) (outcome_record F b o)

-- the weights of the action's outcomes add up to the total
abbrev pub WeightsRule : Format → List ℕ → ℕ → Whole → Type 0
WeightsRule F b a _ = weights (outcomes_of F b (action_record F b a)) ≡ F.total

-- a state's record lists the action `a`
abbrev pub Has : StateRecord → ℕ → Type 0
Has r a = (r.first ≤ a) × (a < r.first + r.count)

-- the estimate of `s` is at most what the action costs with the estimates after it
abbrev pub Consistent : Format → List ℕ → ℕ → ℕ → Type 0
Consistent F b s a =
    estimate F b s * F.total ≤ (action_record F b a).cost * F.total + weighted (estimate F b) (outcomes_of F b (action_record F b a))

abbrev pub ConsistencyRule : Format → List ℕ → ℕ → Whole → Type 0
ConsistencyRule F b a _ = (s : ℕ) → s < states b → Has (state_record F b s) a → Consistent F b s a

-- ## The checks

-- a field of one of `count` records breaks its rule, at the byte `k`
abbrev pub Broken : {Part : Type 0} → ℕ → (ℕ → ℕ) → (Part → ℕ) → (ℕ → Part → Type 0) → ℕ → ℕ → Type 0
Broken {Part} count first_byte offset rule r k = (r < count) × ((p : Part) × (k ≡ first_byte r + offset p) × (rule r p → ⊥))

-- the file as a whole breaks a rule; its record number is 0
abbrev pub FileBroken : {Part : Type 0} → (Part → ℕ) → (Part → Type 0) → ℕ → ℕ → Type 0
FileBroken offset rule = Broken 1 (λ _. 0) offset (λ _. rule)

-- A check fails: its cause, the record and the byte.
abbrev pub Fails : Format → List ℕ → Cause → ℕ → ℕ → Type 0
Fails F b Length = FileBroken whole_offset (LengthRule F b)
Fails F b Opening = FileBroken opening_offset (OpeningRule F b)
Fails F b Header = FileBroken header_offset (HeaderRule F (head_of b))
Fails F b Sections = FileBroken whole_offset (SectionsRule F b)
Fails F b StateField = Broken (states b) (state_byte F) state_offset (StatesRule F b)
Fails F b ActionField = Broken (actions b) (action_byte F b) action_offset (ActionsRule F b)
Fails F b OutcomeField = Broken (outcomes b) (outcome_byte F b) outcome_offset (OutcomesRule F b)
Fails F b Counts = λ r k.
    ((r + 1 ≡ states b) × (k ≡ state_byte F r + 7) × (sum_below (action_count F b) (states b) ≢ actions b))
    ⊎ ((r + 1 ≡ actions b) × (k ≡ action_byte F b r + 6) × (sum_below (outcome_count F b) (actions b) ≢ outcomes b))
Fails F b Weights = Broken (actions b) (action_byte F b) whole_offset (WeightsRule F b)
Fails F b Consistency = Broken (actions b) (action_byte F b) whole_offset (ConsistencyRule F b)

abbrev pub Clear : Format → List ℕ → Cause → Type 0
Clear F b c = (r k : ℕ) → Fails F b c r k → ⊥

-- the file keeps the layout: no check fails
abbrev pub Sound : Format → List ℕ → Type 0
Sound F b = (c : Cause) → Clear F b c

-- a check comes before another: by its number, then by its byte
abbrev pub Before : ℕ → ℕ → ℕ → ℕ → Type 0
Before n k n' k' = (n < n') ⊎ ((n ≡ n') × (k < k'))

-- a check fails here, and none before
pub record FirstFault (F : Format) (b : List ℕ) (c : Cause) (r k : ℕ) : Type 0 where
  pub fails : Fails F b c r k
  pub none_before : (c' : Cause) (r' k' : ℕ) → Before (number c') k' (number c) k → Fails F b c' r' k' → ⊥

-- a file has at most one first fault
abbrev pub OneFirstFault : Format → Type 0
OneFirstFault F =
    (b : List ℕ) (c c' : Cause) (r r' k k' : ℕ) → FirstFault F b c r k → FirstFault F b c' r' k' → (c ≡ c') × (r ≡ r') × (k ≡ k')
