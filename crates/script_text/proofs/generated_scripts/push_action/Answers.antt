use Rattle.std.proofs.Common.{ℕ, true, List, [], ◌∷◌, ◌++◌, ap, sym, ◌∙◌}
use Rattle.script_lines.specs.declared.line.Line.{Line}
use Rattle.script_lines.specs.declared.line.Line.TheVariants.{Send, Allocate, Form, TransmitBuffer}
use Rattle.script_text.specs.declared.draws.Draft.{Draft}
use Rattle.script_text.specs.declared.draws.Kind.{Kind}
use Rattle.script_text.specs.Generated.{action_of}
use Rattle.script_text.proofs.ActionLemmas.{action_drawn}
use Rattle.script_text.proofs.generated_scripts.push_action.Goals as goal

pub returns-in-Send-clause-lines : goal.returns-in-Send-clause-lines
unfolding action_of
returns-in-Send-clause-lines c =
    let same = action_drawn c.args.generator.now c.draw.result c.draw.new.self c.kind_of.result c.draw.ensures.drawn c.draw.ensures.moved c.kind_of.ensures
    ∙ ap (λ (k : Kind). action_of k c.draw.new.self) c.in-Send.is in
    c.push_send.ensures.lines
    ∙ ap (λ (m : Draft). c.args.lines.now.items ++ Send m.id m.size m.fill true ∷ []) c.draft.ensures.drawn
    ∙ sym (ap (λ (d : List Line × ℕ). c.args.lines.now.items ++ d.0) same)

pub returns-in-Send-clause-moved : goal.returns-in-Send-clause-moved
unfolding action_of
returns-in-Send-clause-moved c =
    let same = action_drawn c.args.generator.now c.draw.result c.draw.new.self c.kind_of.result c.draw.ensures.drawn c.draw.ensures.moved c.kind_of.ensures
    ∙ ap (λ (k : Kind). action_of k c.draw.new.self) c.in-Send.is in
    c.draft.ensures.moved ∙ sym (ap (λ (d : List Line × ℕ). d.1) same)

pub returns-in-SendBuffer-clause-lines : goal.returns-in-SendBuffer-clause-lines
unfolding action_of
returns-in-SendBuffer-clause-lines c =
    let same = action_drawn c.args.generator.now c.draw.result c.draw.new.self c.kind_of.result c.draw.ensures.drawn c.draw.ensures.moved c.kind_of.ensures
    ∙ ap (λ (k : Kind). action_of k c.draw.new.self) c.in-SendBuffer.is in
    c.push_buffer.ensures.lines
    ∙ ap (λ (m : Draft). c.args.lines.now.items ++ Allocate 0 m.size ∷ Form 0 m.id m.fill ∷ TransmitBuffer 0 true ∷ []) c.draft-in-SendBuffer.ensures.drawn
    ∙ sym (ap (λ (d : List Line × ℕ). c.args.lines.now.items ++ d.0) same)

pub returns-in-SendBuffer-clause-moved : goal.returns-in-SendBuffer-clause-moved
unfolding action_of
returns-in-SendBuffer-clause-moved c =
    let same = action_drawn c.args.generator.now c.draw.result c.draw.new.self c.kind_of.result c.draw.ensures.drawn c.draw.ensures.moved c.kind_of.ensures
    ∙ ap (λ (k : Kind). action_of k c.draw.new.self) c.in-SendBuffer.is in
    c.draft-in-SendBuffer.ensures.moved ∙ sym (ap (λ (d : List Line × ℕ). d.1) same)

pub returns-in-Receive-clause-lines : goal.returns-in-Receive-clause-lines
unfolding action_of
returns-in-Receive-clause-lines c =
    let same = action_drawn c.args.generator.now c.draw.result c.draw.new.self c.kind_of.result c.draw.ensures.drawn c.draw.ensures.moved c.kind_of.ensures
    ∙ ap (λ (k : Kind). action_of k c.draw.new.self) c.in-Receive.is in
    c.push_reserved.ensures.items ∙ sym (ap (λ (d : List Line × ℕ). c.args.lines.now.items ++ d.0) same)

pub returns-in-Receive-clause-moved : goal.returns-in-Receive-clause-moved
unfolding action_of
returns-in-Receive-clause-moved c =
    let same = action_drawn c.args.generator.now c.draw.result c.draw.new.self c.kind_of.result c.draw.ensures.drawn c.draw.ensures.moved c.kind_of.ensures
    ∙ ap (λ (k : Kind). action_of k c.draw.new.self) c.in-Receive.is in
    sym (ap (λ (d : List Line × ℕ). d.1) same)
