-- Each turn writes one action.
use Rattle.std.specs.Fmt.{HasWritten, IsPlainFormatter}
use Rattle.description.specs.Texts.{joined, action_text}
use Rattle.description.proofs.model.StateTextDisplay.fmt.Given as goal

abbrev pub invariant-loop-a : goal.invariant-loop-a
invariant-loop-a g l =
    IsPlainFormatter l.initial.f → HasWritten g.W.Write.write_str_gives l.initial.f (joined l.a (action_text (g.M.Model.process l.self.model.now) l.self.s)) l.f
