use Rattle.std.proofs.Common.{ap, sym, subst, ◌∙◌}
use Rattle.std.specs.Vec.{vec_capacity}
use Rattle.es_pool.specs.Pool.{size_at}
use Rattle.table_blocks.specs.Contents.{Content, is_open, content_at, is_double, is_staged}
use Rattle.table_blocks.specs.Memory.{GoesBack, slot_at}
use Rattle.table_blocks.specs.Blocks.{Stored}
use Rattle.table_blocks.specs.Inside.{IsStore}
use Rattle.table_blocks.proofs.Store.{held_here, held_back}
use Rattle.table_blocks.proofs.TableOpenings.{store_closed, other_stays}
use Rattle.table_blocks.proofs.blocks.TableBlocks.close.Goals as goal

pub give_back-requires-clause-whole : goal.give_back-requires-clause-whole
give_back-requires-clause-whole g c =
    let s = c.self.inside in
    let key = c.args.key in
    let there = ap (λ (x : Stored). is_open x.tables key) c.self.view_is ∙ c.requires.open in
    let te = c.take_table-table.ensures.table in
    let held = held_here s.memory s.most key s.tables.items s.work.items (vec_capacity s.work) c.self.invariant there in
    let first = c.blocks-first.ensures.0 ∙ ap (λ (t : Content). t.first) te in
    c.into_blocks-one.ensures.first ∙ (ap (λ (t : Content). t.present.whole) te ∙ (held.whole ∙ ap (size_at s.memory.pool) (sym first)))

pub give_back-requires-then-is_double-clause-own : goal.give_back-requires-then-is_double-clause-own
give_back-requires-then-is_double-clause-own g c =
    let s = c.self.inside in
    let key = c.args.key in
    let here = content_at s.tables.items key in
    let there = ap (λ (x : Stored). is_open x.tables key) c.self.view_is ∙ c.requires.open in
    let te = c.take_table-table.ensures.table in
    let held = held_here s.memory s.most key s.tables.items s.work.items (vec_capacity s.work) c.self.invariant there in
    let double = sym (c.is_double.ensures ∙ ap is_double te) ∙ c.if-is_double.true in
    let first = c.blocks-first.ensures.0 ∙ ap (λ (t : Content). t.first) te in
    let second = c.blocks-first.ensures.1 ∙ ap (λ (t : Content). t.second) te in
    let stays = other_stays s.memory c.give_back.new.self s.most key here held double (subst (GoesBack s.memory c.give_back.new.self) first c.give_back.ensures.after) in
    ap (slot_at c.give_back.new.self.slots) second ∙ stays.own

pub give_back-requires-then-is_double-clause-whole : goal.give_back-requires-then-is_double-clause-whole
give_back-requires-then-is_double-clause-whole g c =
    let s = c.self.inside in
    let key = c.args.key in
    let here = content_at s.tables.items key in
    let there = ap (λ (x : Stored). is_open x.tables key) c.self.view_is ∙ c.requires.open in
    let te = c.take_table-table.ensures.table in
    let held = held_here s.memory s.most key s.tables.items s.work.items (vec_capacity s.work) c.self.invariant there in
    let double = sym (c.is_double.ensures ∙ ap is_double te) ∙ c.if-is_double.true in
    let first = c.blocks-first.ensures.0 ∙ ap (λ (t : Content). t.first) te in
    let second = c.blocks-first.ensures.1 ∙ ap (λ (t : Content). t.second) te in
    let stays = other_stays s.memory c.give_back.new.self s.most key here held double (subst (GoesBack s.memory c.give_back.new.self) first c.give_back.ensures.after) in
    c.into_blocks-one.ensures.second ∙ (ap (λ (t : Content). t.present.whole) te ∙ (stays.whole ∙ ap (size_at c.give_back.new.self.pool) (sym second)))

pub invariant_of-self : goal.invariant_of-self
invariant_of-self g c =
    let s = c.self.inside in
    let key = c.args.key in
    let here = content_at s.tables.items key in
    let room = vec_capacity s.work in
    let there = ap (λ (x : Stored). is_open x.tables key) c.self.view_is ∙ c.requires.open in
    let idle = ap (λ (x : Stored). is_staged (content_at x.tables key).next) c.self.view_is ∙ c.requires.not_staged in
    let te = c.take_table-table.ensures.table in
    let held = held_here s.memory s.most key s.tables.items s.work.items room c.self.invariant there in
    let double = sym (c.is_double.ensures ∙ ap is_double te) ∙ c.if-is_double.true in
    let between = c.give_back.new.self in
    let new = c.give_back-then-is_double.new.self in
    let first = c.blocks-first.ensures.0 ∙ ap (λ (t : Content). t.first) te in
    let second = c.blocks-first.ensures.1 ∙ ap (λ (t : Content). t.second) te in
    let one = subst (GoesBack s.memory between) first c.give_back.ensures.after in
    let other = subst (GoesBack between new) second c.give_back-then-is_double.ensures.after in
    let stays = other_stays s.memory between s.most key here held double one in
    subst (λ l. IsStore new s.most l s.work.items room) (sym c.take_table-table.ensures.after)
    (store_closed s.memory new s.most key s.tables.items s.work.items room c.self.invariant there idle
    (λ i d apart h. held_back between new s.most i key here.second d other stays.own apart (held_back s.memory between s.most i key here.first d one held.first apart h)))

pub give_back-requires-else-is_double-clause-whole : goal.give_back-requires-else-is_double-clause-whole
give_back-requires-else-is_double-clause-whole g c =
    let s = c.self.inside in
    let key = c.args.key in
    let there = ap (λ (x : Stored). is_open x.tables key) c.self.view_is ∙ c.requires.open in
    let te = c.take_table-table.ensures.table in
    let held = held_here s.memory s.most key s.tables.items s.work.items (vec_capacity s.work) c.self.invariant there in
    let first = c.blocks-first.ensures.0 ∙ ap (λ (t : Content). t.first) te in
    c.into_block.ensures ∙ (ap (λ (t : Content). t.present.whole) te ∙ (held.whole ∙ ap (size_at s.memory.pool) (sym first)))

pub invariant_of-self-else-is_double : goal.invariant_of-self-else-is_double
invariant_of-self-else-is_double g c =
    let s = c.self.inside in
    let key = c.args.key in
    let here = content_at s.tables.items key in
    let room = vec_capacity s.work in
    let there = ap (λ (x : Stored). is_open x.tables key) c.self.view_is ∙ c.requires.open in
    let idle = ap (λ (x : Stored). is_staged (content_at x.tables key).next) c.self.view_is ∙ c.requires.not_staged in
    let te = c.take_table-table.ensures.table in
    let held = held_here s.memory s.most key s.tables.items s.work.items room c.self.invariant there in
    let new = c.give_back-else-is_double.new.self in
    let first = c.blocks-first.ensures.0 ∙ ap (λ (t : Content). t.first) te in
    let one = subst (GoesBack s.memory new) first c.give_back-else-is_double.ensures.after in
    subst (λ l. IsStore new s.most l s.work.items room) (sym c.take_table-table.ensures.after)
    (store_closed s.memory new s.most key s.tables.items s.work.items room c.self.invariant there idle
    (λ i d apart h. held_back s.memory new s.most i key here.first d one held.first apart h))
