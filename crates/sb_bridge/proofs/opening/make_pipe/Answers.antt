use Rattle.std.proofs.Common.{Result, Ok, Err, ap, ◌∙◌, inl, inr, refl, subst, arith, codes, ℕ}
use Rattle.fsw_base.specs.Limits.{Limits}
use Rattle.fsw_base.specs.declared.statuses.SbStatus.{SbStatus}
use Rattle.bus_words.specs.declared.history.Call.TheVariants.{Create}
use Rattle.bus_core.specs.Answers.{numbered}
use Rattle.bus_service.specs.Ports.{Answers}
use Rattle.app_script.specs.Script.{ScriptText}
use Rattle.sb_bridge.proofs.FirstSteps.{created, may_create}
use Rattle.sb_bridge.proofs.opening.make_pipe.Goals as goal

pub create_pipe-made-requires-clause-may : goal.create_pipe-made-requires-clause-may
create_pipe-made-requires-clause-may g c = may_create c.args.port.now c.requires.own c.requires.active c.requires.room c.requires.bytes c.config.result.now.depth

pub returns-in-Ok-clause-made : goal.returns-in-Ok-clause-made
returns-in-Ok-clause-made g c =
    let depth = ap (λ (l : Limits). l.depth) (c.config.ensures ∙ ap (λ (s : ScriptText). s.limits) c.script.ensures) in
    created c.args.plan.now c.in-Ok.pipe c.args.port.now c.create_pipe-made.new.self (numbered (Ok c.in-Ok.pipe)) c.requires.own
    (subst (λ d. Answers c.args.port.now c.create_pipe-made.new.self (Create d (codes "BRIDGE")) (numbered (Ok c.in-Ok.pipe))) depth
    (subst (λ (r : Result ℕ SbStatus). Answers c.args.port.now c.create_pipe-made.new.self (Create c.config.result.now.depth (codes "BRIDGE")) (numbered r)) c.in-Ok.is c.create_pipe-made.ensures.answers))
    c.recall.ensures.mine (inl refl)

pub returns-in-Err-clause-made : goal.returns-in-Err-clause-made
returns-in-Err-clause-made g c =
    let depth = ap (λ (l : Limits). l.depth) (c.config.ensures ∙ ap (λ (s : ScriptText). s.limits) c.script.ensures) in
    created c.args.plan.now 0 c.args.port.now c.create_pipe-made.new.self (numbered (Err c.in-Err.field-0)) c.requires.own
    (subst (λ d. Answers c.args.port.now c.create_pipe-made.new.self (Create d (codes "BRIDGE")) (numbered (Err c.in-Err.field-0))) depth
    (subst (λ (r : Result ℕ SbStatus). Answers c.args.port.now c.create_pipe-made.new.self (Create c.config.result.now.depth (codes "BRIDGE")) (numbered r)) c.in-Err.is c.create_pipe-made.ensures.answers))
    c.recall.ensures.mine (inr (c.in-Err.field-0, refl))

pub returns-in-Ok-clause-depth : goal.returns-in-Ok-clause-depth
returns-in-Ok-clause-depth g c =
    let depth = ap (λ (l : Limits). l.depth) (c.config.ensures ∙ ap (λ (s : ScriptText). s.limits) c.script.ensures) in
    omega (arith, depth, c.config.result.now.depth_in_range)

pub returns-in-Ok-clause-pipes : goal.returns-in-Ok-clause-pipes
returns-in-Ok-clause-pipes g c =
    let pipes = ap (λ (l : Limits). l.pipes) (c.config.ensures ∙ ap (λ (s : ScriptText). s.limits) c.script.ensures) in
    omega (arith, pipes, c.config.result.now.pipes_in_range)

pub returns-in-Err-clause-depth : goal.returns-in-Err-clause-depth
returns-in-Err-clause-depth g c =
    let depth = ap (λ (l : Limits). l.depth) (c.config.ensures ∙ ap (λ (s : ScriptText). s.limits) c.script.ensures) in
    omega (arith, depth, c.config.result.now.depth_in_range)

pub returns-in-Err-clause-pipes : goal.returns-in-Err-clause-pipes
returns-in-Err-clause-pipes g c =
    let pipes = ap (λ (l : Limits). l.pipes) (c.config.ensures ∙ ap (λ (s : ScriptText). s.limits) c.script.ensures) in
    omega (arith, pipes, c.config.result.now.pipes_in_range)
