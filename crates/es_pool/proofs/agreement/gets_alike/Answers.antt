use Rattle.std.proofs.Common.{◌∙◌, sym, refl}
use Rattle.std.proofs.lemmas.Bool.{false≢true}
use Rattle.es_pool.proofs.Law.{room_alike, draws_alike, leaves_drawn, leaves_unchanged, moved_drawn}
use Rattle.es_pool.proofs.agreement.gets_alike.Goals as goal

pub returns-in-Ok-get-clause-account : goal.returns-in-Ok-get-clause-account
returns-in-Ok-get-clause-account g c = draws_alike _ _ _ _ _ _ _ c.requires c.in-Ok.ensures.drawn c.in-Ok-get.ensures.class c.in-Ok-get.ensures.drawn

pub returns-in-Err-get-clause-alike : goal.returns-in-Err-get-clause-alike
returns-in-Err-get-clause-alike g c =
    c.in-Err-get.ensures.given.1 (sym (room_alike c.args.pool.now c.args.plain.now c.args.size c.requires) ∙ c.in-Ok.ensures.given.0 refl)

pub returns-in-Err-get-clause-account : goal.returns-in-Err-get-clause-account
returns-in-Err-get-clause-account g c =
    absurd (false≢true (c.in-Err-get.ensures.given.1 (sym (room_alike c.args.pool.now c.args.plain.now c.args.size c.requires) ∙ c.in-Ok.ensures.given.0 refl)))

pub returns-in-Ok-get-2-clause-alike : goal.returns-in-Ok-get-2-clause-alike
returns-in-Ok-get-2-clause-alike g c =
    c.in-Err.ensures.given.1 (room_alike c.args.pool.now c.args.plain.now c.args.size c.requires ∙ c.in-Ok-get-2.ensures.given.0 refl)

pub returns-in-Ok-get-2-clause-account : goal.returns-in-Ok-get-2-clause-account
returns-in-Ok-get-2-clause-account g c =
    absurd (false≢true (c.in-Err.ensures.given.1 (room_alike c.args.pool.now c.args.plain.now c.args.size c.requires ∙ c.in-Ok-get-2.ensures.given.0 refl)))

pub returns-in-Ok-get-clause-run : goal.returns-in-Ok-get-clause-run
returns-in-Ok-get-clause-run g c = leaves_drawn c.args.pool.now c.get.new.self c.args.size c.in-Ok.field-0 (c.in-Ok.ensures.given.0 refl) c.in-Ok.ensures.drawn

pub returns-in-Err-get-clause-run : goal.returns-in-Err-get-clause-run
returns-in-Err-get-clause-run g c = leaves_drawn c.args.pool.now c.get.new.self c.args.size c.in-Ok.field-0 (c.in-Ok.ensures.given.0 refl) c.in-Ok.ensures.drawn

pub returns-in-Ok-get-2-clause-run : goal.returns-in-Ok-get-2-clause-run
returns-in-Ok-get-2-clause-run g c = leaves_unchanged c.args.pool.now c.get.new.self c.args.size c.in-Err.ensures.given.1 c.in-Err.ensures.unchanged

pub returns-in-Ok-get-clause-moved : goal.returns-in-Ok-get-clause-moved
returns-in-Ok-get-clause-moved g c =
    moved_drawn c.args.plain.now c.get-in-Ok.new.self c.args.size c.in-Ok-get.field-0 c.in-Ok-get.ensures.class (c.in-Ok-get.ensures.given.0 refl) c.in-Ok-get.ensures.drawn

pub returns-in-Err-get-clause-moved : goal.returns-in-Err-get-clause-moved
returns-in-Err-get-clause-moved g c =
    absurd (false≢true (c.in-Err-get.ensures.given.1 (sym (room_alike c.args.pool.now c.args.plain.now c.args.size c.requires) ∙ c.in-Ok.ensures.given.0 refl)))

pub returns-in-Ok-get-2-clause-moved : goal.returns-in-Ok-get-2-clause-moved
returns-in-Ok-get-2-clause-moved g c =
    absurd (false≢true (c.in-Err.ensures.given.1 (room_alike c.args.pool.now c.args.plain.now c.args.size c.requires ∙ c.in-Ok-get-2.ensures.given.0 refl)))
