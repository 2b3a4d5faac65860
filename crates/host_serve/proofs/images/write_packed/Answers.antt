use Rattle.std.proofs.Common.{◌≡◌, sym, subst, ◌∙◌}
use Rattle.table_images.specs.Images.{packed_file}
use Rattle.host_serve.specs.Serve.{EndsText, MakesNothing, made_through}
use Rattle.host_serve.specs.declared.status.HostStatus.TheVariants.{Done}
use Rattle.host_serve.proofs.Numbers.{all_filled}
use Rattle.host_serve.proofs.images.write_packed.Goals as goal

pub returns-clause-end : goal.returns-clause-end
returns-clause-end g c = λ audit.
    let head = c.args.head.now in
    let old = made_through c.args.sink.now audit in
    let new = made_through c.tell_file.new.sink audit in
    let filled = all_filled c.args.file.len c.fill_packed.new.file c.args.file.items (c.fill_packed.auto.file ∙ c.deref_mut.ensures.len) (sym c.args.file.ok.0) in
    let same : c.deref.result.now ≡ packed_file head.name.now head.offset head.sub c.args.bytes.now = c.deref.ensures.value ∙ filled ∙ c.fill_packed.ensures in
    subst (λ file. EndsText Done c.tell_file.result file (MakesNothing old new) old new) same (c.tell_file.ensures.end audit)
