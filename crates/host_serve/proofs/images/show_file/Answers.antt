use Rattle.std.proofs.Common.{List, ℕ, length, ap, arith}
use Rattle.std.proofs.lemmas.List.{length-drop}
use Rattle.host_serve.specs.Serve.{made_through}
use Rattle.host_serve.proofs.Ends.{shown-none}
use Rattle.host_serve.proofs.images.show_file.Goals as goal

pub tell_image-requires-clause-few : goal.tell_image-requires-clause-few
tell_image-requires-clause-few g c =
    let fields = c.in-Ok.ensures.image.fields in
    omega (arith, c.requires.few, ap (λ (l : List ℕ). length l) fields.bytes, length-drop 116 c.args.file.now)

pub returns-in-Ok-clause-end : goal.returns-in-Ok-clause-end
returns-in-Ok-clause-end g c = λ audit.
    let fields = c.in-Ok.ensures.image.fields in
    shown-none c.tell_image.result c.args.file.now _ _ _ _ (made_through c.args.sink.now audit) (made_through c.tell_image.new.sink audit)
    c.in-Ok.ensures.sound fields.name fields.offset fields.bytes fields.sub (c.tell_image.ensures.end audit)
