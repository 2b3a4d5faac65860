use Rattle.std.proofs.Common.{◌≡◌, eqb, true, false, Option, None, is_some, refl, ap, sym, ◌∙◌, subst, arith}
use Rattle.std.specs.Option.{IsSome, option_map_or}
use Rattle.fsw_base.specs.Blocks.{are_block_sizes}
use Rattle.es_pool.specs.Pool.{PoolState}
use Rattle.tbl_words.specs.Machine.{without_handles}
use Rattle.tbl_registry.specs.declared.rows.Handle.{Handle}
use Rattle.tbl_registry.specs.Listing.{Listing, without_table}
use Rattle.table_blocks.specs.Contents.{content_at, older_in}
use Rattle.table_core.specs.Core.{Plain, Holds}
use Rattle.table_core.proofs.Access.{any_found}
use Rattle.table_core.proofs.Figures.{has_content}
use Rattle.table_core.proofs.Leaves.{owner_leaves, last_is, removed, gone_unstaged, gone_views, gone_older, stays_means, stays_keeps, stays_bags, gone_means, gone_keeps, gone_bags}
use Rattle.table_core.proofs.Unregisters.{idle_found}
use Rattle.table_core.proofs.plain.PlainTables.drop_handle.Goals as goal

pub unwrap-row-requires : goal.unwrap-row-requires
unwrap-row-requires g c =
    let so = idle_found c.self.inside c.args.self.now c.self.view_is c.args.handle c.requires.idle in
    subst (λ o. IsSome o) (sym (c.find.ensures ∙ so.found)) refl

pub overflow_cast-key : goal.overflow_cast-key
overflow_cast-key g c =
    let has = has_content c.self.inside c.self.invariant c.recall_ties.ensures c.args.handle c.unwrap-row.result (sym c.find.ensures ∙ c.unwrap-row.ensures) in
    omega (arith, has.small)

pub drop_staged-requires : goal.drop_staged-requires
drop_staged-requires g c =
    let has = has_content c.self.inside c.self.invariant c.recall_ties.ensures c.args.handle c.unwrap-row.result (sym c.find.ensures ∙ c.unwrap-row.ensures) in
    has.present

pub drop_handle-requires : goal.drop_handle-requires
drop_handle-requires g c =
    any_found (λ (k : Handle). eqb k.number c.args.handle) c.self.inside.registry.handles ∙ ap is_some (sym c.find.ensures ∙ c.unwrap-row.ensures)

pub invariant_of-self : goal.invariant_of-self
invariant_of-self g c =
    let a = c.self.inside in
    let so = idle_found a c.args.self.now c.self.view_is c.args.handle c.requires.idle in
    let found = sym c.find.ensures ∙ c.unwrap-row.ensures in
    let h = c.unwrap-row.result in
    let idle = ap (λ (o : Option Handle). option_map_or (λ (k : Handle). k.held) o None) (sym found ∙ so.found) ∙ so.idle in
    let has = has_content a c.self.invariant c.recall_ties.ensures c.args.handle h found in
    let owner = owner_leaves a c.self.invariant c.recall_ties.ensures c.args.handle h found has c.drop_staged.new.blocks (older_in (content_at c.drop_staged.new.blocks.tables h.key).next).loan c.drop_staged.ensures in
    let between = record a { blocks = c.drop_staged.new.blocks } in
    let has_now = has_content between owner.keeps c.recall_ties.ensures c.args.handle h found in
    let some = last_is between owner.keeps c.recall_ties.ensures c.args.handle h found has_now idle owner.unstaged c.drop_handle.new.self c.drop_handle.result false c.drop_handle.ensures.after c.drop_handle.ensures.last c.if-not-drop_handle.true in
    stays_keeps between owner.keeps c.recall_ties.ensures c.args.handle h found has_now idle owner.unstaged c.drop_handle.new.self c.drop_handle.ensures.after some

pub returns-then-not-drop_handle-clause-after : goal.returns-then-not-drop_handle-clause-after
returns-then-not-drop_handle-clause-after g c =
    let a = c.self.inside in
    let so = idle_found a c.args.self.now c.self.view_is c.args.handle c.requires.idle in
    let found = sym c.find.ensures ∙ c.unwrap-row.ensures in
    let h = c.unwrap-row.result in
    let idle = ap (λ (o : Option Handle). option_map_or (λ (k : Handle). k.held) o None) (sym found ∙ so.found) ∙ so.idle in
    let has = has_content a c.self.invariant c.recall_ties.ensures c.args.handle h found in
    let owner = owner_leaves a c.self.invariant c.recall_ties.ensures c.args.handle h found has c.drop_staged.new.blocks (older_in (content_at c.drop_staged.new.blocks.tables h.key).next).loan c.drop_staged.ensures in
    let between = record a { blocks = c.drop_staged.new.blocks } in
    let has_now = has_content between owner.keeps c.recall_ties.ensures c.args.handle h found in
    let some = last_is between owner.keeps c.recall_ties.ensures c.args.handle h found has_now idle owner.unstaged c.drop_handle.new.self c.drop_handle.result false c.drop_handle.ensures.after c.drop_handle.ensures.last c.if-not-drop_handle.true in
    stays_means between owner.keeps c.recall_ties.ensures c.args.handle h found has_now idle owner.unstaged c.drop_handle.new.self c.drop_handle.ensures.after some
    ∙ owner.leaves ∙ ap (λ (p : Plain). without_handles (λ k. eqb k.number c.args.handle) p.state) c.self.view_is

pub returns-then-not-drop_handle-clause-bags : goal.returns-then-not-drop_handle-clause-bags
returns-then-not-drop_handle-clause-bags g c =
    let a = c.self.inside in
    let so = idle_found a c.args.self.now c.self.view_is c.args.handle c.requires.idle in
    let found = sym c.find.ensures ∙ c.unwrap-row.ensures in
    let h = c.unwrap-row.result in
    let idle = ap (λ (o : Option Handle). option_map_or (λ (k : Handle). k.held) o None) (sym found ∙ so.found) ∙ so.idle in
    let has = has_content a c.self.invariant c.recall_ties.ensures c.args.handle h found in
    let owner = owner_leaves a c.self.invariant c.recall_ties.ensures c.args.handle h found has c.drop_staged.new.blocks (older_in (content_at c.drop_staged.new.blocks.tables h.key).next).loan c.drop_staged.ensures in
    let between = record a { blocks = c.drop_staged.new.blocks } in
    let has_now = has_content between owner.keeps c.recall_ties.ensures c.args.handle h found in
    let some = last_is between owner.keeps c.recall_ties.ensures c.args.handle h found has_now idle owner.unstaged c.drop_handle.new.self c.drop_handle.result false c.drop_handle.ensures.after c.drop_handle.ensures.last c.if-not-drop_handle.true in
    λ app bag holds. stays_bags between owner.keeps c.recall_ties.ensures c.args.handle h found has_now idle owner.unstaged c.drop_handle.new.self c.drop_handle.ensures.after some app bag (owner.bags app bag (subst (λ (p : Plain). Holds p app bag) (sym c.self.view_is) holds))

pub remove-requires : goal.remove-requires
remove-requires g c =
    let a = c.self.inside in
    let so = idle_found a c.args.self.now c.self.view_is c.args.handle c.requires.idle in
    let found = sym c.find.ensures ∙ c.unwrap-row.ensures in
    let h = c.unwrap-row.result in
    let idle = ap (λ (o : Option Handle). option_map_or (λ (k : Handle). k.held) o None) (sym found ∙ so.found) ∙ so.idle in
    let has = has_content a c.self.invariant c.recall_ties.ensures c.args.handle h found in
    let owner = owner_leaves a c.self.invariant c.recall_ties.ensures c.args.handle h found has c.drop_staged.new.blocks (older_in (content_at c.drop_staged.new.blocks.tables h.key).next).loan c.drop_staged.ensures in
    let between = record a { blocks = c.drop_staged.new.blocks } in
    let has_now = has_content between owner.keeps c.recall_ties.ensures c.args.handle h found in
    let last = last_is between owner.keeps c.recall_ties.ensures c.args.handle h found has_now idle owner.unstaged c.drop_handle.new.self c.drop_handle.result true c.drop_handle.ensures.after c.drop_handle.ensures.last c.if-not-drop_handle.false in
    removed between owner.keeps c.recall_ties.ensures c.args.handle h found has_now idle owner.unstaged c.drop_handle.new.self c.drop_handle.ensures.after last

pub recall_table-requires : goal.recall_table-requires
recall_table-requires g c =
    let a = c.self.inside in
    let so = idle_found a c.args.self.now c.self.view_is c.args.handle c.requires.idle in
    let found = sym c.find.ensures ∙ c.unwrap-row.ensures in
    let h = c.unwrap-row.result in
    let idle = ap (λ (o : Option Handle). option_map_or (λ (k : Handle). k.held) o None) (sym found ∙ so.found) ∙ so.idle in
    let has = has_content a c.self.invariant c.recall_ties.ensures c.args.handle h found in
    let owner = owner_leaves a c.self.invariant c.recall_ties.ensures c.args.handle h found has c.drop_staged.new.blocks (older_in (content_at c.drop_staged.new.blocks.tables h.key).next).loan c.drop_staged.ensures in
    let between = record a { blocks = c.drop_staged.new.blocks } in
    let has_now = has_content between owner.keeps c.recall_ties.ensures c.args.handle h found in
    has_now.present

pub close-requires-clause-open : goal.close-requires-clause-open
close-requires-clause-open g c =
    let a = c.self.inside in
    let so = idle_found a c.args.self.now c.self.view_is c.args.handle c.requires.idle in
    let found = sym c.find.ensures ∙ c.unwrap-row.ensures in
    let h = c.unwrap-row.result in
    let idle = ap (λ (o : Option Handle). option_map_or (λ (k : Handle). k.held) o None) (sym found ∙ so.found) ∙ so.idle in
    let has = has_content a c.self.invariant c.recall_ties.ensures c.args.handle h found in
    let owner = owner_leaves a c.self.invariant c.recall_ties.ensures c.args.handle h found has c.drop_staged.new.blocks (older_in (content_at c.drop_staged.new.blocks.tables h.key).next).loan c.drop_staged.ensures in
    let between = record a { blocks = c.drop_staged.new.blocks } in
    let has_now = has_content between owner.keeps c.recall_ties.ensures c.args.handle h found in
    has_now.present

pub close-requires-clause-not_staged : goal.close-requires-clause-not_staged
close-requires-clause-not_staged g c =
    let a = c.self.inside in
    let so = idle_found a c.args.self.now c.self.view_is c.args.handle c.requires.idle in
    let found = sym c.find.ensures ∙ c.unwrap-row.ensures in
    let h = c.unwrap-row.result in
    let idle = ap (λ (o : Option Handle). option_map_or (λ (k : Handle). k.held) o None) (sym found ∙ so.found) ∙ so.idle in
    let has = has_content a c.self.invariant c.recall_ties.ensures c.args.handle h found in
    let owner = owner_leaves a c.self.invariant c.recall_ties.ensures c.args.handle h found has c.drop_staged.new.blocks (older_in (content_at c.drop_staged.new.blocks.tables h.key).next).loan c.drop_staged.ensures in
    let between = record a { blocks = c.drop_staged.new.blocks } in
    let has_now = has_content between owner.keeps c.recall_ties.ensures c.args.handle h found in
    let last = last_is between owner.keeps c.recall_ties.ensures c.args.handle h found has_now idle owner.unstaged c.drop_handle.new.self c.drop_handle.result true c.drop_handle.ensures.after c.drop_handle.ensures.last c.if-not-drop_handle.false in
    gone_unstaged between owner.keeps c.recall_ties.ensures c.args.handle h found has_now idle owner.unstaged last

pub close-requires-clause-all_back : goal.close-requires-clause-all_back
close-requires-clause-all_back g c =
    let a = c.self.inside in
    let so = idle_found a c.args.self.now c.self.view_is c.args.handle c.requires.idle in
    let found = sym c.find.ensures ∙ c.unwrap-row.ensures in
    let h = c.unwrap-row.result in
    let idle = ap (λ (o : Option Handle). option_map_or (λ (k : Handle). k.held) o None) (sym found ∙ so.found) ∙ so.idle in
    let has = has_content a c.self.invariant c.recall_ties.ensures c.args.handle h found in
    let owner = owner_leaves a c.self.invariant c.recall_ties.ensures c.args.handle h found has c.drop_staged.new.blocks (older_in (content_at c.drop_staged.new.blocks.tables h.key).next).loan c.drop_staged.ensures in
    let between = record a { blocks = c.drop_staged.new.blocks } in
    let has_now = has_content between owner.keeps c.recall_ties.ensures c.args.handle h found in
    let last = last_is between owner.keeps c.recall_ties.ensures c.args.handle h found has_now idle owner.unstaged c.drop_handle.new.self c.drop_handle.result true c.drop_handle.ensures.after c.drop_handle.ensures.last c.if-not-drop_handle.false in
    gone_views between owner.keeps c.recall_ties.ensures c.args.handle h found has_now idle owner.unstaged last

pub close-requires-clause-older_back : goal.close-requires-clause-older_back
close-requires-clause-older_back g c =
    let a = c.self.inside in
    let so = idle_found a c.args.self.now c.self.view_is c.args.handle c.requires.idle in
    let found = sym c.find.ensures ∙ c.unwrap-row.ensures in
    let h = c.unwrap-row.result in
    let idle = ap (λ (o : Option Handle). option_map_or (λ (k : Handle). k.held) o None) (sym found ∙ so.found) ∙ so.idle in
    let has = has_content a c.self.invariant c.recall_ties.ensures c.args.handle h found in
    let owner = owner_leaves a c.self.invariant c.recall_ties.ensures c.args.handle h found has c.drop_staged.new.blocks (older_in (content_at c.drop_staged.new.blocks.tables h.key).next).loan c.drop_staged.ensures in
    let between = record a { blocks = c.drop_staged.new.blocks } in
    let has_now = has_content between owner.keeps c.recall_ties.ensures c.args.handle h found in
    let last = last_is between owner.keeps c.recall_ties.ensures c.args.handle h found has_now idle owner.unstaged c.drop_handle.new.self c.drop_handle.result true c.drop_handle.ensures.after c.drop_handle.ensures.last c.if-not-drop_handle.false in
    gone_older between owner.keeps c.recall_ties.ensures c.args.handle h found has_now idle owner.unstaged last

pub invariant_of-self-2 : goal.invariant_of-self-2
invariant_of-self-2 g c =
    let a = c.self.inside in
    let so = idle_found a c.args.self.now c.self.view_is c.args.handle c.requires.idle in
    let found = sym c.find.ensures ∙ c.unwrap-row.ensures in
    let h = c.unwrap-row.result in
    let idle = ap (λ (o : Option Handle). option_map_or (λ (k : Handle). k.held) o None) (sym found ∙ so.found) ∙ so.idle in
    let has = has_content a c.self.invariant c.recall_ties.ensures c.args.handle h found in
    let owner = owner_leaves a c.self.invariant c.recall_ties.ensures c.args.handle h found has c.drop_staged.new.blocks (older_in (content_at c.drop_staged.new.blocks.tables h.key).next).loan c.drop_staged.ensures in
    let between = record a { blocks = c.drop_staged.new.blocks } in
    let has_now = has_content between owner.keeps c.recall_ties.ensures c.args.handle h found in
    let last = last_is between owner.keeps c.recall_ties.ensures c.args.handle h found has_now idle owner.unstaged c.drop_handle.new.self c.drop_handle.result true c.drop_handle.ensures.after c.drop_handle.ensures.last c.if-not-drop_handle.false in
    gone_keeps between owner.keeps c.recall_ties.ensures c.args.handle h found has_now idle owner.unstaged c.remove.new.self c.close.new.self (c.remove.ensures ∙ ap (λ (l : Listing). let m : Listing = record l { tables = without_table h.key l.tables } in m) c.drop_handle.ensures.after) last c.close.ensures.after c.recall_table.ensures
    (subst (λ (p : PoolState). are_block_sizes p.sizes ≡ true) c.pool.ensures c.recall_whole.ensures.sizes_fit)

pub returns-clause-after : goal.returns-clause-after
returns-clause-after g c =
    let a = c.self.inside in
    let so = idle_found a c.args.self.now c.self.view_is c.args.handle c.requires.idle in
    let found = sym c.find.ensures ∙ c.unwrap-row.ensures in
    let h = c.unwrap-row.result in
    let idle = ap (λ (o : Option Handle). option_map_or (λ (k : Handle). k.held) o None) (sym found ∙ so.found) ∙ so.idle in
    let has = has_content a c.self.invariant c.recall_ties.ensures c.args.handle h found in
    let owner = owner_leaves a c.self.invariant c.recall_ties.ensures c.args.handle h found has c.drop_staged.new.blocks (older_in (content_at c.drop_staged.new.blocks.tables h.key).next).loan c.drop_staged.ensures in
    let between = record a { blocks = c.drop_staged.new.blocks } in
    let has_now = has_content between owner.keeps c.recall_ties.ensures c.args.handle h found in
    let last = last_is between owner.keeps c.recall_ties.ensures c.args.handle h found has_now idle owner.unstaged c.drop_handle.new.self c.drop_handle.result true c.drop_handle.ensures.after c.drop_handle.ensures.last c.if-not-drop_handle.false in
    gone_means between owner.keeps c.recall_ties.ensures c.args.handle h found has_now idle owner.unstaged c.remove.new.self c.close.new.self (c.remove.ensures ∙ ap (λ (l : Listing). let m : Listing = record l { tables = without_table h.key l.tables } in m) c.drop_handle.ensures.after) last c.close.ensures.after c.recall_table.ensures
    (subst (λ (p : PoolState). are_block_sizes p.sizes ≡ true) c.pool.ensures c.recall_whole.ensures.sizes_fit)
    ∙ owner.leaves ∙ ap (λ (p : Plain). without_handles (λ k. eqb k.number c.args.handle) p.state) c.self.view_is

pub returns-clause-bags : goal.returns-clause-bags
returns-clause-bags g c =
    let a = c.self.inside in
    let so = idle_found a c.args.self.now c.self.view_is c.args.handle c.requires.idle in
    let found = sym c.find.ensures ∙ c.unwrap-row.ensures in
    let h = c.unwrap-row.result in
    let idle = ap (λ (o : Option Handle). option_map_or (λ (k : Handle). k.held) o None) (sym found ∙ so.found) ∙ so.idle in
    let has = has_content a c.self.invariant c.recall_ties.ensures c.args.handle h found in
    let owner = owner_leaves a c.self.invariant c.recall_ties.ensures c.args.handle h found has c.drop_staged.new.blocks (older_in (content_at c.drop_staged.new.blocks.tables h.key).next).loan c.drop_staged.ensures in
    let between = record a { blocks = c.drop_staged.new.blocks } in
    let has_now = has_content between owner.keeps c.recall_ties.ensures c.args.handle h found in
    let last = last_is between owner.keeps c.recall_ties.ensures c.args.handle h found has_now idle owner.unstaged c.drop_handle.new.self c.drop_handle.result true c.drop_handle.ensures.after c.drop_handle.ensures.last c.if-not-drop_handle.false in
    λ app bag holds. gone_bags between owner.keeps c.recall_ties.ensures c.args.handle h found has_now idle owner.unstaged c.remove.new.self c.close.new.self (c.remove.ensures ∙ ap (λ (l : Listing). let m : Listing = record l { tables = without_table h.key l.tables } in m) c.drop_handle.ensures.after) last c.close.ensures.after c.recall_table.ensures
    (subst (λ (p : PoolState). are_block_sizes p.sizes ≡ true) c.pool.ensures c.recall_whole.ensures.sizes_fit) app bag (owner.bags app bag (subst (λ (p : Plain). Holds p app bag) (sym c.self.view_is) holds))
