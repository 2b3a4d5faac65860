use Rattle.std.proofs.Common.{ℕ, ◌≡◌, ◌+◌, ◌-◌, List, ◌++◌, ap, sym, ◌∙◌, append-nil, arith}
use Rattle.script_lines.specs.declared.line.Line.{Line}
use Rattle.script_text.proofs.ActionLemmas.{lines_next, moved_next, actions_none}
use Rattle.script_text.proofs.generated_scripts.push_actions.Goals as goal

pub loop-action-preserved : goal.loop-action-preserved
loop-action-preserved c =
    let one : 250 - c.loop-action._action ≡ (250 - (c.loop-action._action + 1)) + 1 = omega (arith, c.loop-action-test.true) in
    record {
      lines = lines_next c.loop-action.lines.items c.push_action.new.lines.items (250 - (c.loop-action._action + 1)) (250 - c.loop-action._action) c.loop-action.generator c.push_action.new.generator one c.push_action.ensures.lines c.push_action.ensures.moved
          ∙ c.loop-action.invariant.lines;
      moved = moved_next (250 - (c.loop-action._action + 1)) (250 - c.loop-action._action) c.loop-action.generator c.push_action.new.generator one c.push_action.ensures.moved ∙ c.loop-action.invariant.moved;
      room = omega (arith, c.push_action.ensures.len, c.push_action.ensures.room, c.loop-action.invariant.room);
    }

pub returns-clause-lines : goal.returns-clause-lines
returns-clause-lines c =
    let none : 250 - c.loop-action._action ≡ 0 = omega (arith, c.loop-action-test.false) in
    sym (ap (λ (d : List Line × ℕ). c.loop-action.lines.items ++ d.0) (actions_none (250 - c.loop-action._action) c.loop-action.generator none) ∙ append-nil c.loop-action.lines.items) ∙ c.loop-action.invariant.lines

pub returns-clause-moved : goal.returns-clause-moved
returns-clause-moved c =
    let none : 250 - c.loop-action._action ≡ 0 = omega (arith, c.loop-action-test.false) in
    sym (ap (λ (d : List Line × ℕ). d.1) (actions_none (250 - c.loop-action._action) c.loop-action.generator none)) ∙ c.loop-action.invariant.moved
