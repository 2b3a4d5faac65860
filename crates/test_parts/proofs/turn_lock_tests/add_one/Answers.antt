use Rattle.std.proofs.Common.{◌∙◌, ◌++◌, ◌∷◌, [], ap, sym, if◌then◌else◌}
use Rattle.turn_lock.proofs.Callers.{adds_where}
use Rattle.test_parts.proofs.turn_lock_tests.add_one.Goals as goal

pub finish-requires-clause-own : goal.finish-requires-clause-own
finish-requires-clause-own g c =
    let view = c.enter-turn.ensures.view in
    adds_where c.enter-turn.result.view c.add-added.new.self.0 c.args.app c.args.number c.add-added.result
    (ap (λ v. v.app) view ∙ c.requires.app)
    (ap (λ p. p.0) c.add-added.ensures ∙ ap (λ l. l ++ (if c.add-added.result then (c.args.app, c.args.number) ∷ [] else [])) (ap (λ p. p.0) c.value_mut.ensures.value ∙ sym (ap (λ v. v.seen) view)))
