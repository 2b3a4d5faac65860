use Rattle.std.proofs.Common.{◌≡◌, ℕ, true, false, eqb, Some, None, ap, sym, refl, ◌∙◌, subst, arith}
use Rattle.std.specs.Option.{IsSome}
use Rattle.fsw_base.specs.Blocks.{are_block_sizes}
use Rattle.es_pool.specs.Pool.{PoolState}
use Rattle.tbl_words.specs.declared.calls.TblAnswer.TheVariants.{Number, Duplicate}
use Rattle.tbl_words.specs.declared.history.Call.TheVariants.{Register}
use Rattle.tbl_words.specs.Machine.{new_table_cause}
use Rattle.tbl_registry.specs.Listing.{handle_at}
use Rattle.table_blocks.specs.Blocks.{Opens}
use Rattle.table_blocks.specs.Contents.{content_at, is_open}
use Rattle.table_core.specs.Core.{Acts}
use Rattle.table_core.specs.Inside.{plain_of}
use Rattle.table_core.proofs.CallLaws.{at_fields}
use Rattle.tbl_registry.proofs.HandleNumbers.{same_number, other_number}
use Rattle.table_core.proofs.Shares.{is_named, share_there}
use Rattle.table_core.proofs.Registers.{found_new, owner_key, key_within, key_small, key_closed}
use Rattle.table_core.proofs.RegisterCalls.{not_so, some_is, register_unowned, register_other_size, owner_live, register_again, register_full}
use Rattle.table_core.proofs.NewTables.{on_ok, registered_fits, registered_all_keeps, registered_all_acts}
use Rattle.table_core.proofs.Shares.{number_left}
use Rattle.table_core.proofs.plain.PlainTables.register.Goals as goal

pub table-row-requires : goal.table-row-requires
table-row-requires g c = share_there c.self.inside c.recall_ties.ensures c.args.name.now c.in-Some-by_name.key (sym c.by_name.ensures ∙ c.in-Some-by_name.is)

pub returns-then-ne-clause-does : goal.returns-then-ne-clause-does
returns-then-ne-clause-does g c =
    register_unowned c.self.inside c.args.self.now c.self.view_is c.args.app c.args.name.now c.args.size c.args.option c.args.rules.now (sym c.unfit_cause.ensures ∙ c.in_default.is)
    c.in-Some-by_name.key (is_named c.self.inside c.recall_ties.ensures c.args.name.now c.in-Some-by_name.key (sym c.by_name.ensures ∙ c.in-Some-by_name.is)) c.table-row.result c.table-row.ensures (not_so (eqb c.table-row.result.app c.args.app) true (sym c.ne.ensures ∙ c.if-ne.true))

pub returns-then-row-size-clause-does : goal.returns-then-row-size-clause-does
returns-then-row-size-clause-does g c =
    register_other_size c.self.inside c.args.self.now c.self.view_is c.args.app c.args.name.now c.args.size c.args.option c.args.rules.now (sym c.unfit_cause.ensures ∙ c.in_default.is)
    c.in-Some-by_name.key (is_named c.self.inside c.recall_ties.ensures c.args.name.now c.in-Some-by_name.key (sym c.by_name.ensures ∙ c.in-Some-by_name.is)) c.table-row.result c.table-row.ensures (not_so (eqb c.table-row.result.app c.args.app) false (sym c.ne.ensures ∙ c.if-ne.false)) (other_number c.table-row.result.size c.args.size c.if-row-size.true)

pub unwrap-requires : goal.unwrap-requires
unwrap-requires g c =
    let named = is_named c.self.inside c.recall_ties.ensures c.args.name.now c.in-Some-by_name.key (sym c.by_name.ensures ∙ c.in-Some-by_name.is) in
    subst (λ o. IsSome o) (sym (owner_live c.self.inside c.args.self.now c.self.view_is c.args.app c.args.name.now c.args.size c.args.option c.args.rules.now (sym c.unfit_cause.ensures ∙ c.in_default.is) c.in-Some-by_name.key named c.table-row.result c.table-row.ensures)) refl

pub returns-in-Some-by_name-clause-does : goal.returns-in-Some-by_name-clause-does
returns-in-Some-by_name-clause-does g c =
    let named = is_named c.self.inside c.recall_ties.ensures c.args.name.now c.in-Some-by_name.key (sym c.by_name.ensures ∙ c.in-Some-by_name.is) in
    let live = owner_live c.self.inside c.args.self.now c.self.view_is c.args.app c.args.name.now c.args.size c.args.option c.args.rules.now (sym c.unfit_cause.ensures ∙ c.in_default.is) c.in-Some-by_name.key named c.table-row.result c.table-row.ensures in
    let P : ℕ → Type 0 = λ number. Acts c.args.self.now c.args.self.now c.args.app (Register c.args.name.now c.args.size c.args.option c.args.rules.now) (Duplicate number) in
    subst P (some_is named.t.number c.unwrap.result (sym live ∙ c.unwrap.ensures))
    (register_again c.self.inside c.args.self.now c.self.view_is c.args.app c.args.name.now c.args.size c.args.option c.args.rules.now (sym c.unfit_cause.ensures ∙ c.in_default.is)
    c.in-Some-by_name.key named c.table-row.result c.table-row.ensures (not_so (eqb c.table-row.result.app c.args.app) false (sym c.ne.ensures ∙ c.if-ne.false)) (same_number c.table-row.result.size c.args.size c.if-row-size.false))

pub returns-in-Some-new_table_cause-clause-does : goal.returns-in-Some-new_table_cause-clause-does
returns-in-Some-new_table_cause-clause-does g c =
    register_full c.self.inside c.args.self.now c.self.view_is c.args.app c.args.name.now c.args.size c.args.option c.args.rules.now (sym c.unfit_cause.ensures ∙ c.in_default.is)
    (sym c.by_name.ensures ∙ c.in_default-by_name.is) c.in-Some-new_table_cause.status
    (at_fields c.self.inside c.args.self.now c.self.view_is (λ limits s. new_table_cause limits s c.args.size c.args.option) (Some c.in-Some-new_table_cause.status) (sym c.in-Some-new_table_cause.is ∙ c.new_table_cause.ensures))

pub add_table-number-requires-clause-number : goal.add_table-number-requires-clause-number
add_table-number-requires-clause-number g c = number_left c.self.inside c.args.self.now c.self.view_is c.requires.number

pub unwrap-owner-requires : goal.unwrap-owner-requires
unwrap-owner-requires g c =
    subst (λ o. IsSome o)
    (sym (c.find.ensures ∙ ap (handle_at c.add_table-number.new.self.handles) c.add_table-number.ensures.number
    ∙ found_new c.self.inside c.self.invariant c.recall_ties.ensures c.args.app c.args.name.now c.args.size c.args.option c.args.rules.now c.add_table-number.new.self c.add_table-number.ensures.after)) refl

pub overflow_cast-owner : goal.overflow_cast-owner
overflow_cast-owner g c =
    let key = owner_key c.self.inside c.self.invariant c.recall_ties.ensures c.args.app c.args.name.now c.args.size c.args.option c.args.rules.now c.add_table-number.new.self c.add_table-number.ensures.after c.find.result c.add_table-number.result c.unwrap-owner.result
    c.find.ensures c.add_table-number.ensures.number c.unwrap-owner.ensures in
    omega (arith, key, key_small c.self.inside c.self.invariant c.recall_ties.ensures c.args.app c.args.name.now c.args.size c.args.option c.args.rules.now c.add_table-number.new.self c.add_table-number.ensures.after)

pub open-requires-clause-key : goal.open-requires-clause-key
open-requires-clause-key g c =
    let key = owner_key c.self.inside c.self.invariant c.recall_ties.ensures c.args.app c.args.name.now c.args.size c.args.option c.args.rules.now c.add_table-number.new.self c.add_table-number.ensures.after c.find.result c.add_table-number.result c.unwrap-owner.result
    c.find.ensures c.add_table-number.ensures.number c.unwrap-owner.ensures in
    omega (arith, key, key_within c.self.inside c.self.invariant c.recall_ties.ensures c.args.app c.args.name.now c.args.size c.args.option c.args.rules.now c.add_table-number.new.self c.add_table-number.ensures.after)

pub open-requires-clause-new : goal.open-requires-clause-new
open-requires-clause-new g c =
    let key = owner_key c.self.inside c.self.invariant c.recall_ties.ensures c.args.app c.args.name.now c.args.size c.args.option c.args.rules.now c.add_table-number.new.self c.add_table-number.ensures.after c.find.result c.add_table-number.result c.unwrap-owner.result
    c.find.ensures c.add_table-number.ensures.number c.unwrap-owner.ensures in
    ap (is_open c.self.inside.blocks.tables) key ∙ key_closed c.self.inside c.self.invariant c.recall_ties.ensures c.args.app c.args.name.now c.args.size c.args.option c.args.rules.now c.add_table-number.new.self c.add_table-number.ensures.after

pub unwrap-requires-2 : goal.unwrap-requires-2
unwrap-requires-2 g c =
    c.open.ensures.given.1
    (registered_fits c.self.inside c.self.invariant c.args.size c.args.option
    (at_fields c.self.inside c.args.self.now c.self.view_is (λ limits s. new_table_cause limits s c.args.size c.args.option) None (sym c.in_default-new_table_cause.is ∙ c.new_table_cause.ensures)))

pub invariant_of-self : goal.invariant_of-self
invariant_of-self g c =
    let key = owner_key c.self.inside c.self.invariant c.recall_ties.ensures c.args.app c.args.name.now c.args.size c.args.option c.args.rules.now c.add_table-number.new.self c.add_table-number.ensures.after c.find.result c.add_table-number.result c.unwrap-owner.result
    c.find.ensures c.add_table-number.ensures.number c.unwrap-owner.ensures in
    let O : ℕ → Type 0 = λ k. Opens c.self.inside.blocks c.open.new.self k c.args.size c.args.option (content_at c.open.new.self.tables k) in
    let free = at_fields c.self.inside c.args.self.now c.self.view_is (λ limits s. new_table_cause limits s c.args.size c.args.option) None (sym c.in_default-new_table_cause.is ∙ c.new_table_cause.ensures) in
    let opens = subst O key (on_ok c.open.result (c.open.ensures.given.1 (registered_fits c.self.inside c.self.invariant c.args.size c.args.option free)) c.open.ensures.opened) in
    registered_all_keeps c.self.inside c.args.self.now c.self.view_is c.self.invariant c.recall_ties.ensures c.args.app c.args.name.now c.args.size c.args.option c.args.rules.now c.add_table-number.new.self c.add_table-number.ensures.after
    c.open.new.self (content_at c.open.new.self.tables c.add_table-number.ensures.after.key) opens free (subst (λ (p : PoolState). are_block_sizes p.sizes ≡ true) c.pool.ensures c.recall_whole.ensures.sizes_fit)
    (sym c.unfit_cause.ensures ∙ c.in_default.is)

pub returns-clause-does : goal.returns-clause-does
returns-clause-does g c =
    let key = owner_key c.self.inside c.self.invariant c.recall_ties.ensures c.args.app c.args.name.now c.args.size c.args.option c.args.rules.now c.add_table-number.new.self c.add_table-number.ensures.after c.find.result c.add_table-number.result c.unwrap-owner.result
    c.find.ensures c.add_table-number.ensures.number c.unwrap-owner.ensures in
    let O : ℕ → Type 0 = λ k. Opens c.self.inside.blocks c.open.new.self k c.args.size c.args.option (content_at c.open.new.self.tables k) in
    let free = at_fields c.self.inside c.args.self.now c.self.view_is (λ limits s. new_table_cause limits s c.args.size c.args.option) None (sym c.in_default-new_table_cause.is ∙ c.new_table_cause.ensures) in
    let opens = subst O key (on_ok c.open.result (c.open.ensures.given.1 (registered_fits c.self.inside c.self.invariant c.args.size c.args.option free)) c.open.ensures.opened) in
    let P : ℕ → Type 0 = λ number. Acts c.args.self.now (plain_of (record c.self.inside { registry = c.add_table-number.new.self; blocks = c.open.new.self })) c.args.app
    (Register c.args.name.now c.args.size c.args.option c.args.rules.now) (Number number) in
    subst P (sym c.add_table-number.ensures.number)
    (registered_all_acts c.self.inside c.args.self.now c.self.view_is c.self.invariant c.recall_ties.ensures c.args.app c.args.name.now c.args.size c.args.option c.args.rules.now c.add_table-number.new.self c.add_table-number.ensures.after
    c.open.new.self (content_at c.open.new.self.tables c.add_table-number.ensures.after.key) opens free (subst (λ (p : PoolState). are_block_sizes p.sizes ≡ true) c.pool.ensures c.recall_whole.ensures.sizes_fit)
    (sym c.unfit_cause.ensures ∙ c.in_default.is) (sym c.by_name.ensures ∙ c.in_default-by_name.is))
