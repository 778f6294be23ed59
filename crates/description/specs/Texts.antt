-- The text that describes a decision process, one fact to a line. Assumes nothing.
use Rattle.std.specs.Prelude.{◌≡◌, ℕ, zero, suc, ◌+◌, Bool, true, false, List, [], ◌∷◌, ◌++◌, length, codes, decimal, refl}
use Rattle.std.proofs.Common.{add-one}
use Rattle.process.specs.Process.{Action, Process, action_at, outcome_at}

-- the line feed that ends every line
abbrev pub feed : List ℕ
feed = 10 ∷ []

-- the texts f 0, f 1, .. f (n - 1), one after the other
unfoldable pub joined : ℕ → (ℕ → List ℕ) → List ℕ
joined zero f = []
joined (suc n) f = joined n f ++ f n

pub joined_none : (f : ℕ → List ℕ) → joined 0 f ≡ []
unfolding joined
joined_none f = refl

pub joined_more : (n : ℕ) (f : ℕ → List ℕ) → joined (n + 1) f ≡ joined n f ++ f n
unfolding joined
joined_more n f = rw add-one

-- the line of an outcome: the state that it leads to, and its weight
abbrev pub outcome_line : Action → ℕ → List ℕ
outcome_line action k =
    codes "    outcome " ++ (decimal k ++ (codes " state " ++ (decimal (outcome_at action k).0 ++ (codes " weight " ++ (decimal (outcome_at action k).1 ++ feed)))))

-- the line of an action
abbrev pub action_line : Process → ℕ → ℕ → List ℕ
action_line p s a = codes "  action " ++ (decimal a ++ (codes " cost " ++ (decimal (action_at p s a).cost ++ feed)))

-- an action: its line, and below it those of its outcomes
abbrev pub action_text : Process → ℕ → ℕ → List ℕ
action_text p s a = action_line p s a ++ joined (length (action_at p s a).outcomes) (outcome_line (action_at p s a))

-- the kind of a state, by whether it is terminal
abbrev pub kind_word : Bool → List ℕ
kind_word true = codes "ending"
kind_word false = codes "open"

-- the line of a state
abbrev pub state_line : Process → ℕ → List ℕ
state_line p s = codes "state " ++ (decimal s ++ (codes " " ++ (kind_word (p.terminal s) ++ (codes " estimate " ++ (decimal (p.estimate s) ++ feed)))))

-- a state: its line, and below it its actions
abbrev pub state_text : Process → ℕ → List ℕ
state_text p s = state_line p s ++ joined (length (p.actions s)) (action_text p s)

-- the line of a number of the whole process, with its name
abbrev pub number_line : List ℕ → ℕ → List ℕ
number_line name n = name ++ (codes " " ++ (decimal n ++ feed))

-- the lines that come first
abbrev pub header : Process → List ℕ
header p =
    number_line (codes "states") p.states ++ (number_line (codes "start") p.start ++ (number_line (codes "price") p.price ++ number_line (codes "total") p.total))

-- a process: its header, and below it its states
abbrev pub process_text : Process → List ℕ
process_text p = header p ++ joined p.states (state_text p)

-- a model, by whether it is in order and what it tells
abbrev pub described : Bool → Process → List ℕ
described true p = process_text p
described false p = codes "out of order" ++ feed
