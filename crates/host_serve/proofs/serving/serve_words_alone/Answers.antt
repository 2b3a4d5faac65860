use Rattle.std.proofs.Common.{ℕ, List, refl, sym, subst, ◌∙◌}
use Rattle.host_serve.specs.Serve.{Packs, fed_through, made_through}
use Rattle.host_serve.proofs.Served.{serves-judges, serves-other, serves-packs, serves-shows, serves-soaks}
use Rattle.host_serve.proofs.serving.serve_words_alone.Goals as goal

pub returns-in-None-clause-serves : goal.returns-in-None-clause-serves
returns-in-None-clause-serves g c =
    serves-other _ _ _ _ _ _ (sym c.task.ensures ∙ c.in-None.is) (record { unread = refl; usage = c.tell_usage.ensures.end c.args.audit.now })

pub returns-in-Some-Soak-clause-serves : goal.returns-in-Some-Soak-clause-serves
returns-in-Some-Soak-clause-serves g c =
    serves-soaks _ c.in-Some-Soak.number c.soak.result _ _ _ _ (cc (c.task.ensures, c.in-Some-Soak.is))
    (record { unread = refl; ends = c.soak.ensures.end })

pub returns-in-Some-Check-clause-serves : goal.returns-in-Some-Check-clause-serves
returns-in-Some-Check-clause-serves g c =
    serves-judges _ c.check_input.result _ _ _ _ (cc (c.task.ensures, c.in-Some-Check.is)) (c.check_input.ensures.end c.args.audit.now)

pub returns-in-Some-ShowImage-clause-serves : goal.returns-in-Some-ShowImage-clause-serves
returns-in-Some-ShowImage-clause-serves g c =
    serves-shows _ c.show_image.result _ _ _ _ (cc (c.task.ensures, c.in-Some-ShowImage.is)) (c.show_image.ensures.end c.args.audit.now)

pub returns-in-Some-Pack-clause-serves : goal.returns-in-Some-Pack-clause-serves
returns-in-Some-Pack-clause-serves g c =
    let packs = λ (name : List ℕ). Packs c.pack.result name c.in-Some-Pack.offset c.in-Some-Pack.sub (fed_through c.args.source.now) (fed_through c.pack.new.source) (made_through c.args.sink.now c.args.audit.now) (made_through c.pack.new.sink c.args.audit.now) in
    serves-packs _ c.in-Some-Pack.name c.in-Some-Pack.offset c.in-Some-Pack.sub c.pack.result _ _ _ _ (cc (c.task.ensures, c.in-Some-Pack.is)) (subst packs c.as_slice.ensures (c.pack.ensures.end c.args.audit.now))
