-- Each turn writes one state.
use Rattle.std.specs.Fmt.{HasWritten, IsPlainFormatter}
use Rattle.description.specs.Texts.{joined, state_text}
use Rattle.description.proofs.model.ProcessTextDisplay.fmt.Given as goal

abbrev pub invariant-loop-s : goal.invariant-loop-s
invariant-loop-s g l =
    IsPlainFormatter l.initial.f → HasWritten g.W.Write.write_str_gives l.initial.f (joined l.s (state_text (g.M.Model.process l.self.model.now))) l.f
