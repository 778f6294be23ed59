-- What the bytes of a table file say: its header, its records, and the process that they mean.
use Rattle.std.specs.Prelude.{ℕ, zero, suc, ◌+◌, ◌*◌, Bool, true, false, cond, List, [], ◌∷◌, ◌==◌, nat_lt, slice_index}
use Rattle.process.specs.Process.{Process, Action, void}
use Rattle.rcm.specs.declared.records.Head.{Head}
use Rattle.rcm.specs.declared.records.StateRecord.{StateRecord}
use Rattle.rcm.specs.declared.records.ActionRecord.{ActionRecord}
use Rattle.rcm.specs.declared.records.OutcomeRecord.{OutcomeRecord}
use Rattle.rcm.specs.Format.{Format, u16_at, u32_at}

-- ## The header

abbrev pub states : List ℕ → ℕ
states b = u16_at b 5

abbrev pub start : List ℕ → ℕ
start b = u16_at b 7

abbrev pub actions : List ℕ → ℕ
actions b = u16_at b 9

abbrev pub outcomes : List ℕ → ℕ
outcomes b = u16_at b 11

abbrev pub price : List ℕ → ℕ
price b = u32_at b 13

abbrev pub head_of : List ℕ → Head
head_of b = record { states = states b; start = start b; actions = actions b; outcomes = outcomes b; price = price b }

-- ## The sections: each begins where the one before it ends

abbrev pub actions_byte : Format → Head → ℕ
actions_byte F h = F.header_width + F.state_width * h.states

abbrev pub outcomes_byte : Format → Head → ℕ
outcomes_byte F h = actions_byte F h + F.action_width * h.actions

abbrev pub end_byte : Format → Head → ℕ
end_byte F h = outcomes_byte F h + F.outcome_width * h.outcomes

abbrev pub state_byte : Format → ℕ → ℕ
state_byte F s = F.header_width + F.state_width * s

abbrev pub action_byte : Format → List ℕ → ℕ → ℕ
action_byte F b a = actions_byte F (head_of b) + F.action_width * a

abbrev pub outcome_byte : Format → List ℕ → ℕ → ℕ
outcome_byte F b o = outcomes_byte F (head_of b) + F.outcome_width * o

abbrev pub sections_end : Format → List ℕ → ℕ
sections_end F b = end_byte F (head_of b)

-- ## The records

abbrev pub state_record : Format → List ℕ → ℕ → StateRecord
state_record F b s = record {
  byte = state_byte F s;
  kind = slice_index b (state_byte F s);
  estimate = u32_at b (state_byte F s + 1);
  first = u16_at b (state_byte F s + 5);
  count = slice_index b (state_byte F s + 7);
}

abbrev pub action_record : Format → List ℕ → ℕ → ActionRecord
action_record F b a = record {
  byte = action_byte F b a;
  cost = u32_at b (action_byte F b a);
  first = u16_at b (action_byte F b a + 4);
  count = slice_index b (action_byte F b a + 6);
}

abbrev pub outcome_record : Format → List ℕ → ℕ → OutcomeRecord
outcome_record F b o = record {
  byte = outcome_byte F b o;
  state = u16_at b (outcome_byte F b o);
  weight = F.weight_at b (outcome_byte F b o + 2);
}

-- kind 1 is terminal; the other kind, 0, is open
abbrev pub is_terminal : StateRecord → Bool
is_terminal r = r.kind == 1

abbrev pub no_state : StateRecord
no_state = record { byte = 0; kind = 0; estimate = 0; first = 0; count = 0 }

abbrev pub no_action : ActionRecord
no_action = record { byte = 0; cost = 0; first = 0; count = 0 }

abbrev pub no_outcome : OutcomeRecord
no_outcome = record { byte = 0; state = 0; weight = 0 }

-- a record by its number: zeros where the file has none of that number
abbrev pub state_told : Format → List ℕ → ℕ → StateRecord
state_told F b s = cond (nat_lt s (states b)) (state_record F b s) no_state

abbrev pub action_told : Format → List ℕ → ℕ → ActionRecord
action_told F b a = cond (nat_lt a (actions b)) (action_record F b a) no_action

abbrev pub outcome_told : Format → List ℕ → ℕ → OutcomeRecord
outcome_told F b o = cond (nat_lt o (outcomes b)) (outcome_record F b o) no_outcome

-- ## The process

-- `f` at `n` numbers from `i` on
unfoldable pub run : {X : Type 0} → (ℕ → X) → ℕ → ℕ → List X
run f i zero = []
run f i (suc n) = f i ∷ run f (suc i) n

-- the sum of `f` below `n`
unfoldable pub sum_below : (ℕ → ℕ) → ℕ → ℕ
sum_below f zero = 0
sum_below f (suc n) = sum_below f n + f n

abbrev pub estimate : Format → List ℕ → ℕ → ℕ
estimate F b s = (state_record F b s).estimate

abbrev pub action_count : Format → List ℕ → ℕ → ℕ
action_count F b s = (state_record F b s).count

abbrev pub outcome_count : Format → List ℕ → ℕ → ℕ
outcome_count F b a = (action_record F b a).count

abbrev pub outcome : Format → List ℕ → ℕ → (ℕ × ℕ)
outcome F b o = ((outcome_record F b o).state, (outcome_record F b o).weight)

abbrev pub outcomes_of : Format → List ℕ → ActionRecord → List (ℕ × ℕ)
outcomes_of F b r = run (outcome F b) r.first r.count

abbrev pub action_of : Format → List ℕ → ActionRecord → Action
action_of F b r = record { cost = r.cost; outcomes = outcomes_of F b r }

abbrev pub action : Format → List ℕ → ℕ → Action
action F b a = action_of F b (action_record F b a)

abbrev pub actions_of : Format → List ℕ → StateRecord → List Action
actions_of F b r = run (action F b) r.first r.count

-- the process that a file means
abbrev pub decoded : Format → List ℕ → Process
decoded F b = record {
  states = states b;
  start = start b;
  price = price b;
  total = F.total;
  terminal = λ s. is_terminal (state_told F b s);
  estimate = λ s. (state_told F b s).estimate;
  actions = λ s. actions_of F b (state_told F b s);
}

abbrev pub some_bytes : List ℕ → Bool
some_bytes [] = false
some_bytes (x ∷ xs) = true

-- what a table tells: no bytes tell nothing
abbrev pub told : Format → List ℕ → Process
told F b = cond (some_bytes b) (decoded F b) void
