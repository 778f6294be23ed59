-- Each turn writes the line of one outcome.
use Rattle.std.specs.Fmt.{HasWritten, IsPlainFormatter}
use Rattle.process.specs.Process.{action_at}
use Rattle.description.specs.Texts.{joined, outcome_line}
use Rattle.description.proofs.model.ActionTextDisplay.fmt.Given as goal

abbrev pub invariant-loop-k : goal.invariant-loop-k
invariant-loop-k g l =
    let p = g.M.Model.process l.self.model.now in
    IsPlainFormatter l.initial.f → HasWritten g.W.Write.write_str_gives l.initial.f (joined l.k-counter (outcome_line (action_at p l.self.s l.self.a))) l.f
