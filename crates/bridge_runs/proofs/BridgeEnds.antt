-- The bridge ends on both sides, and so do all applications.
use Rattle.std.proofs.Common.{◌≡◌, inl, inr, ℕ, ◌==◌, List, [], ◌∷◌, ◌++◌, length, map, ap, sym, ◌∙◌, subst, arith}
use Rattle.std.proofs.lemmas.List.Elements.{filter-append}
use Rattle.bus_words.specs.declared.history.Call.{Call}
use Rattle.bus_words.specs.declared.history.Call.TheVariants as calls
use Rattle.bus_words.specs.declared.history.Entry.{Entry}
use Rattle.tbl_words.specs.declared.history.Call.{Call as TableCall}
use Rattle.tbl_words.specs.declared.history.Call.TheVariants as table_calls
use Rattle.tbl_words.specs.declared.history.Entry.{Entry as TableEntry}
use Rattle.app_script.specs.Script.{ScriptText}
use Rattle.script_runs.specs.Trace.{own_entries}
use Rattle.script_runs.specs.TableTrace.{own_table_entries}
use Rattle.script_runs.proofs.EndsCome.{HasEnd, HasTableEnd}
use Rattle.bridge_plan.specs.Plan.{PlanText, bridge_of}
use Rattle.bridge_runs.specs.Bridge.{WaitsAndEnds, BridgesFrom, forwarding, calls_by}
use Rattle.bridge_runs.specs.Sides.{EndsAlone}

-- an end among the later entries is one among all
end_behind : (front es : List Entry) → HasEnd es → HasEnd (front ++ es)
end_behind [] es some = some
end_behind (e ∷ front) es some = inr (end_behind front es some)

-- entries whose calls are these
end_of_calls : (es : List Entry) (messages : List (List ℕ)) → map (λ (e : Entry). e.call) es ≡ forwarding messages → HasEnd es
end_of_calls [] [] same = absurd (omega (arith, ap length same))
end_of_calls [] (message ∷ messages) same = absurd (omega (arith, ap length same))
end_of_calls (e ∷ es) [] same = inl (first_call (e.call) (map (λ (x : Entry). x.call) es) calls.End [] same)
  where
    first_call : (a : Call) (as_ : List Call) (b : Call) (bs : List Call) → a ∷ as_ ≡ b ∷ bs → a ≡ b
    first_call a as_ b bs h = cc
end_of_calls (e ∷ es) (message ∷ messages) same = inr (end_of_calls es messages (other_calls (e.call) (map (λ (x : Entry). x.call) es) (calls.Transmit message _) (forwarding messages) same))
  where
    other_calls : (a : Call) (as_ : List Call) (b : Call) (bs : List Call) → a ∷ as_ ≡ b ∷ bs → as_ ≡ bs
    other_calls a as_ b bs h = cc

pub ends_on_two : (app : ℕ) (history : List Entry) (messages : List (List ℕ)) → calls_by app history ≡ forwarding messages → HasEnd (own_entries app history)
ends_on_two app history messages same = end_of_calls (own_entries app history) messages same

waits_end : (p : ℕ) (es : List Entry) → WaitsAndEnds p es → HasEnd es
waits_end p es waits = subst HasEnd (sym waits.all) (end_behind waits.before (waits.last ∷ waits.end ∷ []) (inr (inl waits.ends)))

pub ends_on_one : (plan : PlanText) (p : ℕ) (history : List Entry) → BridgesFrom plan p history → HasEnd (own_entries (bridge_of plan.one) history)
ends_on_one plan p history from =
    let app = bridge_of plan.one in
    let parts = ap (own_entries app) from.begins.whole ∙ filter-append (λ (e : Entry). e.app == app) from.first from.rest in
    subst HasEnd (sym parts) (end_behind (own_entries app from.first) (own_entries app from.rest) (waits_end p (own_entries app from.rest) from.waits))

-- at the tables
end_of_table_calls : (es : List TableEntry) → map (λ (e : TableEntry). e.call) es ≡ table_calls.End ∷ [] → HasTableEnd es
end_of_table_calls [] same = absurd (omega (arith, ap length same))
end_of_table_calls (e ∷ es) same = inl (first_call (e.call) (map (λ (x : TableEntry). x.call) es) table_calls.End [] same)
  where
    first_call : (a : TableCall) (as_ : List TableCall) (b : TableCall) (bs : List TableCall) → a ∷ as_ ≡ b ∷ bs → a ≡ b
    first_call a as_ b bs h = cc

pub ends_at_tables : (script : ScriptText) (history : List TableEntry) → EndsAlone script history → HasTableEnd (own_table_entries (bridge_of script) history)
ends_at_tables script history ends = end_of_table_calls (own_table_entries (bridge_of script) history) ends
