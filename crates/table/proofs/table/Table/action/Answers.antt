-- An action that the state has stands in its section, since the counts of a file that passed add up.
use Rattle.std.proofs.Common.{◌≡◌, ℕ, ◌+◌, ◌<◌, List, sym, refl, ap, ◌∙◌, arith, rules}
use Rattle.rcm.specs.declared.records.StateRecord.{StateRecord}
use Rattle.rcm.specs.Format.{version_1}
use Rattle.rcm.specs.Layout.{state_told, action_record, action_told, outcome, action_of, no_action}
use Rattle.rcm.specs.Laws.Runs.{run_none}
use Rattle.rcm.specs.Laws.Told.{action_here}
use Rattle.checks.specs.Laws.Inside.{outcomes_inside}
use Rattle.table.specs.Laws.Telling.{action_past, action_told_at, action_known}
use Rattle.table.specs.Held.{held}
use Rattle.table.specs.Laws.Holding.{held_sound}
use Rattle.table.proofs.table.Table.action.Goals as goal

pub returns-then-a-from : goal.returns-then-a-from
returns-then-a-from c =
    let b = held c.args.self.now.file in
    let count = ap (λ (r : StateRecord). r.count) c.state-state.ensures in
    let zeros : c.default.result ≡ no_action = search rules in
    record {
      means = action_past version_1 b c.args.s c.args.a (omega arith)
          ∙ ap (λ (os : List (ℕ × ℕ)). record { cost = 0; outcomes = os }) (sym (run_none (outcome version_1 b) 0 0 refl))
          ∙ ap (action_of version_1 b) (sym zeros);
      inside = omega arith;
    }

pub returns : goal.returns
returns c =
    let b = held c.args.self.now.file in
    let s = c.args.s in
    let a = c.args.a in
    let first = ap (λ (r : StateRecord). r.first) c.state-state.ensures in
    let count = ap (λ (r : StateRecord). r.count) c.state-state.ensures in
    let has : a < (state_told version_1 b s).count = omega arith in
    let known = action_known version_1 b s a (held_sound _ c.args.self.now.kept) has in
    let i = (state_told version_1 b s).first + a in
    let here : c.action_record.result ≡ action_record version_1 b i =
    c.action_record.ensures ∙ ap (action_told version_1 b) (omega arith) ∙ action_here version_1 b i known.0 in
    record {
      means = action_told_at version_1 b s a has ∙ ap (action_of version_1 b) (sym here);
      inside = simp here (outcomes_inside version_1 b known.1 i known.0);
    }
