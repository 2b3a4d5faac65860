use Rattle.std.proofs.Common.{refl, ap, ◌∙◌}
use Rattle.fsw_base.specs.Limits.{limits_of}
use Rattle.buf_desc.specs.Desk.{Buffers, uncut}
use Rattle.es_pool.specs.Pool.{most_cut}
use Rattle.bus_messages.proofs.NewStores.{opened_keeps, opened_store, lists_are}
use Rattle.bus_messages.proofs.store.BusStore.new.Goals as goal

pub invariant_of-result : goal.invariant_of-result
invariant_of-result c =
    let cfg = c.args.cfg.now in
    let desk = c.in_ok-desk.ensures ∙ ap (uncut cfg.pool) c.again.ensures in
    opened_keeps (record { tables = c.in_ok-new.field-0; desk = c.in_ok-desk.desk; misses = c.in_ok-new-2.field-0; lists = c.in_ok-new-3.field-0; given = 0 }) (limits_of cfg) c.args.apps
    c.in_ok-new.ensures desk c.in_ok-new-2.ensures
    (lists_are (limits_of cfg) c.args.apps c.most_blocks-blocks.result c.in_ok-new-3.field-0 c.in_ok-new-3.ensures (c.most_blocks-blocks.ensures ∙ ap most_cut c.pool.ensures ∙ ap (λ (b : Buffers). most_cut b.pool) desk)) refl cfg.pipes_in_range.1

pub returns : goal.returns
returns c =
    let cfg = c.args.cfg.now in
    let desk = c.in_ok-desk.ensures ∙ ap (uncut cfg.pool) c.again.ensures in
    opened_store (record { tables = c.in_ok-new.field-0; desk = c.in_ok-desk.desk; misses = c.in_ok-new-2.field-0; lists = c.in_ok-new-3.field-0; given = 0 }) (limits_of cfg) c.args.apps
    c.in_ok-new.ensures desk c.in_ok-new-2.ensures
    (lists_are (limits_of cfg) c.args.apps c.most_blocks-blocks.result c.in_ok-new-3.field-0 c.in_ok-new-3.ensures (c.most_blocks-blocks.ensures ∙ ap most_cut c.pool.ensures ∙ ap (λ (b : Buffers). most_cut b.pool) desk)) refl
