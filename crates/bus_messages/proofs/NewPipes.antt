-- A pipe that was just created.
use Rattle.std.proofs.Common.{◌≡◌, ℕ, ◌+◌, List, [], ◌∷◌, ◌++◌, count_by, refl, ap, sym, ◌∙◌, subst}
use Rattle.lend_block.specs.Loan.{LentBytes}
use Rattle.buf_desc.specs.Held.{Holding}
use Rattle.bus_words.specs.Pipes.{new_pipe, IsRising}
use Rattle.bus_routes.specs.Rows.{Row}
use Rattle.bus_routes.specs.Tables.{Tables}
use Rattle.bus_messages.specs.declared.store.BusStore.TheInside.{Inside}
use Rattle.bus_messages.specs.Store.{Store}
use Rattle.bus_messages.specs.Bag.{views_due}
use Rattle.bus_messages.specs.Inside.{store_of}
use Rattle.bus_messages.proofs.Bags.{due, due-rows, has_view, due-push, views-rows, views-push}
use Rattle.bus_messages.proofs.Lasts.{HasDue, holds_same}

-- no more views are due
pub created_bags : (a : Inside) (old : Store) (next : Tables) (name : List ℕ) (owner depth : ℕ) → store_of a ≡ old →
    next ≡ record a.tables { pipes = a.tables.pipes ++ new_pipe (a.tables.pipes_created + 1) name owner depth ∷ []; pipes_created = a.tables.pipes_created + 1 } → IsRising 0 next.pipes →
    (app : ℕ) (bag : Holding LentBytes) → HasDue old app bag → HasDue (store_of (record a { tables = next })) app bag
created_bags a old next name owner depth viewed is rises app bag =
    let new : Store = store_of (record a { tables = next }) in
    let row : Row = new_pipe (a.tables.pipes_created + 1) name owner depth in
    let there = ap (λ (t : Tables). t.pipes) is in
    let in_order = subst (IsRising 0) there rises in
    holds_same old new app bag
    (λ number.
    due-rows new a.desk.slots next.pipes app number refl refl
    ∙ ap (λ l. due a.desk.slots l app number) there
    ∙ due-push a.desk.slots a.tables.pipes row app number in_order refl
    ∙ sym (due-rows old a.desk.slots a.tables.pipes app number (ap (λ (o : Store). o.pipes) (sym viewed)) (ap (λ (o : Store). o.loans) (sym viewed))))
    (views-rows a.desk.slots next.pipes app ∙ ap (λ l. count_by (has_view app) l) there ∙ views-push a.tables.pipes row app refl
    ∙ sym (views-rows a.desk.slots a.tables.pipes app) ∙ ap (λ (o : Store). views_due o.pipes app) viewed)
    (ap (λ (t : Tables). t.room) is ∙ ap (λ (o : Store). o.room) viewed)
