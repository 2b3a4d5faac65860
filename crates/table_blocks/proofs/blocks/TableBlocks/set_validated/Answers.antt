use Rattle.std.proofs.Common.{ap, sym, subst, ◌∙◌, refl}
use Rattle.std.specs.Vec.{vec_capacity}
use Rattle.table_blocks.specs.Contents.{is_open, content_at, is_staged, validated}
use Rattle.table_blocks.specs.Blocks.{Stored}
use Rattle.table_blocks.specs.Inside.{IsStore}
use Rattle.table_blocks.proofs.Store.{store_quiet}
use Rattle.table_blocks.proofs.blocks.TableBlocks.set_validated.Goals as goal

pub invariant_of-self : goal.invariant_of-self
invariant_of-self c =
    let s = c.self.inside in
    let key = c.args.key in
    let old = s.tables.items in
    let here = content_at old key in
    let room = vec_capacity s.work in
    let there = ap (λ (x : Stored). is_open x.tables key) c.self.view_is ∙ c.requires.open in
    let staged = ap (λ (x : Stored). is_staged (content_at x.tables key).next) c.self.view_is ∙ c.requires.staged in
    subst (λ l. IsStore s.memory s.most l s.work.items room) (sym c.validate.ensures.after)
    (store_quiet s.memory s.most key old s.work.items room c.self.invariant there (validated here) (record { size = refl; option = refl; first = refl; second = refl; whole = refl }) (sym staged) refl)
