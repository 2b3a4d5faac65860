use Rattle.std.proofs.Common.{sym, ap, ◌∙◌}
use Rattle.pipe_table.specs.Inside.{PlaceState}
use Rattle.pipe_table.proofs.NumberedPipes.{ordered, stands_under, read_some, read_none}
use Rattle.pipe_table.proofs.table.found.Goals as goal

pub at_number-requires : goal.at_number-requires
at_number-requires c = ordered c.args.places.now.items c.args.live.now.items c.args.at.now.items c.requires

pub place_at-requires : goal.place_at-requires
place_at-requires c =
    (stands_under 0 c.args.places.now.items c.args.live.now.items c.args.at.now.items c.args.number c.in-Some.place c.requires (sym c.at_number.ensures ∙ c.in-Some.is)).there

pub returns-in-Some-clause-some : goal.returns-in-Some-clause-some
returns-in-Some-clause-some c =
    ap (λ (s : PlaceState). s.pipe) c.place_at.ensures
    ∙ sym (read_some c.args.places.now.items c.args.live.now.items c.args.at.now.items c.args.number c.in-Some.place c.requires (sym c.at_number.ensures ∙ c.in-Some.is))

pub returns-in-None-clause-none : goal.returns-in-None-clause-none
returns-in-None-clause-none c = λ _.
    read_none c.args.places.now.items c.args.live.now.items c.args.at.now.items c.args.number c.requires (sym c.at_number.ensures ∙ c.in-None.is)
