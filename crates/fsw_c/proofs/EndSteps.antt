-- What an application's last call does, as its export says it.
use Rattle.std.proofs.Common.{◌≡◌, ℕ, [], Option, Some, None, Result, Ok, Err, ap, sym, ◌∙◌}
use Rattle.std.specs.Prelude.{IfOk, OnErr, IsSome}
use Rattle.std.specs.Result.{result_err}
use Rattle.bus_words.specs.declared.calls.BusAnswer.TheVariants.{Done}
use Rattle.bus_words.specs.declared.history.Call.TheVariants.{End}
use Rattle.tbl_words.specs.declared.calls.TblAnswer.TheVariants.{Done as TableDone}
use Rattle.tbl_words.specs.declared.history.Call.TheVariants.{End as TableEnd}
use Rattle.table_core.specs.Core.{Acts as TableActs}
use Rattle.checked_tables.specs.Asked.{unasked as unasked_tables}
use Rattle.checked_tables.specs.Box.{KeepsOtherBags as KeepsOtherTables, bag_of as table_bag_of}
use Rattle.bus_core.specs.Core.{Acts}
use Rattle.checked_bus.specs.declared.refusal.Refusal.{Refusal}
use Rattle.checked_bus.specs.Asked.{unasked_end}
use Rattle.checked_bus.specs.Box.{KeepsOtherBags, bag_of}
use Rattle.fsw_core.specs.declared.Core.{Core}
use Rattle.fsw_c.specs.BusCodes.{plain_code}
use Rattle.fsw_c.specs.EndAnswers.{EndCall, Unasked, Asked}

pub ended : {T : Type 0} (old new : Option Core) (o n : Core) (app : ℕ) → old ≡ Some o → new ≡ Some n → (r : Result T Refusal) (status : ℕ) → status ≡ plain_code r →
    result_err r ≡ unasked_end o.bus app → OnErr r (n ≡ o) → IfOk r (λ (nothing : T). Acts o.bus.core n.bus.core app End Done) →
    IfOk r (λ (nothing : T). KeepsOtherBags o.bus n.bus app) →
    IfOk r (λ (nothing : T). bag_of n.bus app ≡ record (bag_of o.bus app) { views = []; buffers = [] }) →
    IfOk r (λ (nothing : T). unasked_tables o.tables.core app TableEnd ≡ None → TableActs o.tables.core n.tables.core app TableEnd TableDone) →
    IfOk r (λ (nothing : T). unasked_tables o.tables.core app TableEnd ≡ None → KeepsOtherTables o.tables n.tables app) →
    IfOk r (λ (nothing : T). unasked_tables o.tables.core app TableEnd ≡ None → table_bag_of n.tables app ≡ record (table_bag_of o.tables app) { views = [] }) →
    IfOk r (λ (nothing : T). IsSome (unasked_tables o.tables.core app TableEnd) → n.tables ≡ o.tables) → EndCall old new app status
ended old new o n app was now (Ok x) status is asked nothing bus others empty tables table_others table_empty stay =
    Asked o n was now (sym asked) bus (others, empty) tables (λ asks. (table_others asks, table_empty asks)) stay is
ended old new o n app was now (Err why) status is unasked nothing bus others empty tables table_others table_empty stay = Unasked o why was (now ∙ ap Some nothing) (sym unasked) is
