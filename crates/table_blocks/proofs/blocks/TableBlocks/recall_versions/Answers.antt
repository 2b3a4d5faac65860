use Rattle.std.proofs.Common.{ap, sym, subst, ◌∙◌}
use Rattle.std.specs.Vec.{vec_capacity}
use Rattle.table_blocks.specs.Inside.{IsStore}
use Rattle.table_blocks.proofs.blocks.TableBlocks.recall_versions.Goals as goal

pub invariant_of-self : goal.invariant_of-self
invariant_of-self c =
    let s = c.self.inside in
    subst (λ l. IsStore s.memory s.most l s.work.items (vec_capacity s.work)) (sym c.tell_versions.ensures.same) c.self.invariant
