use Rattle.std.proofs.Common.{length, ap, sym, ◌∙◌}
use Rattle.std.proofs.lemmas.List.{length-map}
use Rattle.tbl_words.specs.declared.uses.TblUse.{TblUse}
use Rattle.table_core.specs.Core.{Plain}
use Rattle.table_core.specs.Inside.{table_in, handle_in}
use Rattle.table_core.proofs.plain.PlainTables.in_use.Goals as goal

pub returns : goal.returns
returns c =
    let a = c.self.inside in
    let tables = c.tables.ensures ∙ sym (length-map a.registry.tables (table_in a.registry.handles a.blocks.tables)) ∙ ap (λ (p : Plain). length p.state.tables) c.self.view_is in
    let handles = c.handles.ensures ∙ sym (length-map a.registry.handles (handle_in a.blocks.tables)) ∙ ap (λ (p : Plain). length p.state.handles) c.self.view_is in
    ap (λ n. let x : TblUse = record { tables = n; handles = c.handles.result; bytes = c.bytes_in_use.result } in x) tables
    ∙ ap (λ n. let x : TblUse = record { tables = length c.args.self.now.state.tables; handles = n; bytes = c.bytes_in_use.result } in x) handles
    ∙ ap (λ n. let x : TblUse = record { tables = length c.args.self.now.state.tables; handles = length c.args.self.now.state.handles; bytes = n } in x) (c.bytes_in_use.ensures ∙ c.pool.ensures.in_use)
