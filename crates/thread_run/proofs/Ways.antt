-- An application on its way: what others do leaves it there, and its own turns take it on.
use Rattle.std.proofs.Common.{◌≡◌, ◌≢◌, ℕ, ◌≤◌, ◌==◌, true, false, cond, ne_eqb, eq-eqb, All, List, [], ◌∷◌, ◌++◌, append_assoc, append-nil, length, Option, Some, None, refl, ap, sym, ◌∙◌, subst}
use Rattle.std.proofs.lemmas.List.Elements.{All-head, All-tail, filter-append}
use Rattle.lend_block.specs.Loan.{LentBytes}
use Rattle.buf_desc.specs.Held.{Holding}
use Rattle.bus_words.specs.declared.history.Entry.{Entry}
use Rattle.bus_words.specs.Bus.{Standing, Ended, standing_of}
use Rattle.bus_words.specs.Machine.{IsLegal}
use Rattle.bus_words.proofs.Finds.{Each}
use Rattle.sb_calls.specs.Bags.{HasBag, CalledByOthers}
use Rattle.sb_calls.specs.Core.{Core, IsLegalCore, apps_of, state_of}
use Rattle.tbl_words.specs.declared.history.Entry.{Entry as TableEntry}
use Rattle.tbl_words.specs.Machine.{IsLegal as IsLegalAtTables, state_after as tables_after}
use Rattle.table_blocks.specs.Held.{HeldViews}
use Rattle.tbl_load.specs.Bags.{HasBag as HasTableBag, CalledByOthers as CalledByOthersAtTables}
use Rattle.tbl_load.specs.Core.{Core as TableCore, IsLegalCore as AreLegalTables, apps_of as table_apps_of}
use Rattle.app_script.specs.Script.{ScriptText, app_at}
use Rattle.script_runs.specs.Histories.{Histories}
use Rattle.script_runs.specs.Owing.{Owes, TableOwes, first_left}
use Rattle.script_runs.specs.Rotation.{Running, SoFar, turn}
use Rattle.script_runs.specs.TableTrace.{TableTrace, first_handles, own_table_entries}
use Rattle.script_runs.specs.Trace.{Trace, first_registers, own_entries}
use Rattle.script_runs.specs.Written.{first_written}
use Rattle.script_runs.specs.Told.{receipts_told}
use Rattle.script_runs.proofs.OneTurn.{IsTurn, is_ended, listed, turn-in}
use Rattle.script_runs.proofs.TableTurn.{IsTableTurn, table-turn-in}
use Rattle.app_calls.proofs.BufferBytes.{bag-written}
use Rattle.app_run.specs.Rounds.{HasTold, histories_with, telling_now, told_on}
use Rattle.app_run.specs.Runners.{Services, Progress, Equipped, running_of, standing_for, standing_in}
use Rattle.app_run.specs.Turns.{ByTurn, OthersAtBus, OthersAtTables, TakesTurn, so_far}
use Rattle.app_run.proofs.OthersLaws.{with_entries, with_table_entries, called-front, called-front_at_tables, stands-others, stands-others_at_tables}
use Rattle.app_run.proofs.RoundLaws.{moved-same, told-called, told-called_at_tables, told-own}
use Rattle.app_run.proofs.TurnLaws.{both}
use Rattle.thread_run.specs.Ways.{AreForScript, IsOnItsWay, still_going}

-- Entries of others. --

-- among others' entries there is none of one's own
none-own : (app : ℕ) (es : List Entry) → All (λ (e : Entry). e.app ≢ app) es → own_entries app es ≡ []
none-own app [] others = refl
none-own app (e ∷ es) others =
    let other : Entry → Type 0 = λ x. x.app ≢ app in
    ap (λ b. cond {A = List Entry} b (e ∷ own_entries app es) (own_entries app es)) (ne_eqb e.app app (All-head other e es others))
    ∙ none-own app es (All-tail other e es others)

pub own-behind : (app : ℕ) (history es : List Entry) → All (λ (e : Entry). e.app ≢ app) es → own_entries app (history ++ es) ≡ own_entries app history
own-behind app history es others =
    filter-append (λ (e : Entry). e.app == app) history es ∙ ap (λ l. own_entries app history ++ l) (none-own app es others) ∙ append-nil (own_entries app history)

none-own_table : (app : ℕ) (es : List TableEntry) → All (λ (e : TableEntry). e.app ≢ app) es → own_table_entries app es ≡ []
none-own_table app [] others = refl
none-own_table app (e ∷ es) others =
    let other : TableEntry → Type 0 = λ x. x.app ≢ app in
    ap (λ b. cond {A = List TableEntry} b (e ∷ own_table_entries app es) (own_table_entries app es)) (ne_eqb e.app app (All-head other e es others))
    ∙ none-own_table app es (All-tail other e es others)

pub own-behind_at_tables : (app : ℕ) (history es : List TableEntry) → All (λ (e : TableEntry). e.app ≢ app) es →
    own_table_entries app (history ++ es) ≡ own_table_entries app history
own-behind_at_tables app history es others =
    filter-append (λ (e : TableEntry). e.app == app) history es ∙ ap (λ l. own_table_entries app history ++ l) (none-own_table app es others)
    ∙ append-nil (own_table_entries app history)

-- all of one's own entries are one's own
all-own : (app : ℕ) (es : List Entry) → Each (λ (e : Entry). e.app ≡ app) es → own_entries app es ≡ es
all-own app [] mine = refl
all-own app (e ∷ es) mine =
    ap (λ b. cond {A = List Entry} b (e ∷ own_entries app es) (own_entries app es)) (eq-eqb e.app app mine.0) ∙ ap (λ l. e ∷ l) (all-own app es mine.1)

all-own_table : (app : ℕ) (es : List TableEntry) → Each (λ (e : TableEntry). e.app ≡ app) es → own_table_entries app es ≡ es
all-own_table app [] mine = refl
all-own_table app (e ∷ es) mine =
    ap (λ b. cond {A = List TableEntry} b (e ∷ own_table_entries app es) (own_table_entries app es)) (eq-eqb e.app app mine.0)
    ∙ ap (λ l. e ∷ l) (all-own_table app es mine.1)

-- What was told so far stays so, whatever others do. --

told-behind : (script : ScriptText) (one : Equipped) (core : Core) (tables : TableCore) (between : List Entry) → All (λ (e : Entry). e.app ≢ one.progress.running.app) between →
    IsLegalCore (with_entries core (core.log.entries ++ between)) → HasTold script (both core tables) one →
    HasTold script (both (with_entries core (core.log.entries ++ between)) tables) one
told-behind script one core tables [] others legal told =
    subst (λ es. HasTold script (both (with_entries core es) tables) one) (sym (append-nil core.log.entries)) told
told-behind script one core tables (e ∷ es) others legal told =
    let other : Entry → Type 0 = λ x. x.app ≢ one.progress.running.app in
    let next = with_entries core (core.log.entries ++ e ∷ []) in
    let whole = append_assoc core.log.entries (e ∷ []) es in
    let legal-next = subst (λ x. IsLegalCore (with_entries core x)) (sym whole) legal in
    subst (λ x. HasTold script (both (with_entries core x) tables) one) whole
    (told-behind script one next tables es (All-tail other e es others) legal-next
    (told-called script one core next tables e.app e.call e.answer (called-front core e es legal-next) (All-head other e es others) told))

-- notes tell nothing: `HasTold` looks at limits, entries and applications alone
told-others : (script : ScriptText) (one : Equipped) (old new : Core) (tables : TableCore) → CalledByOthers old new one.progress.running.app →
    HasTold script (both old tables) one → HasTold script (both new tables) one
told-others script one old new tables others told =
    subst (λ core. HasTold script (both core tables) one) (sym others.grown)
    (λ entries. told-behind script one old tables others.entries others.by_others (subst (λ core. IsLegalCore core) others.grown others.legal) told entries)

told-behind_at_tables : (script : ScriptText) (one : Equipped) (bus : Core) (core : TableCore) (between : List TableEntry) →
    All (λ (e : TableEntry). e.app ≢ one.progress.running.app) between → core.limits ≡ bus.limits →
    AreLegalTables (with_table_entries core (core.log.entries ++ between)) → HasTold script (both bus core) one →
    HasTold script (both bus (with_table_entries core (core.log.entries ++ between))) one
told-behind_at_tables script one bus core [] others alike legal told =
    subst (λ es. HasTold script (both bus (with_table_entries core es)) one) (sym (append-nil core.log.entries)) told
told-behind_at_tables script one bus core (e ∷ es) others alike legal told =
    let other : TableEntry → Type 0 = λ x. x.app ≢ one.progress.running.app in
    let next = with_table_entries core (core.log.entries ++ e ∷ []) in
    let whole = append_assoc core.log.entries (e ∷ []) es in
    let legal-next = subst (λ x. AreLegalTables (with_table_entries core x)) (sym whole) legal in
    subst (λ x. HasTold script (both bus (with_table_entries core x)) one) whole
    (told-behind_at_tables script one bus next es (All-tail other e es others) alike legal-next
    (told-called_at_tables script one bus core next e.app e.call e.answer (called-front_at_tables core e es legal-next) alike (All-head other e es others) told))

told-others_at_tables : (script : ScriptText) (one : Equipped) (bus : Core) (old new : TableCore) → CalledByOthersAtTables old new one.progress.running.app →
    old.limits ≡ bus.limits → HasTold script (both bus old) one → HasTold script (both bus new) one
told-others_at_tables script one bus old new others alike told =
    subst (λ core. HasTold script (both bus core) one) (sym others.grown)
    (λ entries. told-behind_at_tables script one bus old others.entries others.by_others alike (subst (λ core. AreLegalTables core) others.grown others.legal) told entries)

-- Others leave an application on its way. --

-- bags stay whatever others do: the laws of both services, which the code recalls
abbrev pub BagsStay : Type 0
BagsStay = (old new : Core) (app : ℕ) (bag : Holding LentBytes) → CalledByOthers old new app → HasBag old app bag → HasBag new app bag

abbrev pub TableBagsStay : Type 0
TableBagsStay = (old new : TableCore) (app : ℕ) (bag : HeldViews) → CalledByOthersAtTables old new app → HasTableBag old app bag → HasTableBag new app bag

pub way-bus : BagsStay → (script : ScriptText) (old new : Core) (tables : TableCore) (one : Equipped) → CalledByOthers old new one.progress.running.app →
    1 ≤ one.progress.running.app → IsOnItsWay script (both old tables) one → IsOnItsWay script (both new tables) one
way-bus stay script old new tables one others some way =
    let app = one.progress.running.app in
    let limits : new.limits ≡ old.limits = ap (λ (core : Core). core.limits) others.grown in
    let same : own_entries app new.log.entries ≡ own_entries app old.log.entries =
    ap (λ (core : Core). own_entries app core.log.entries) others.grown ∙ own-behind app old.log.entries others.entries others.by_others in
    record {
      script_is = record {
        limits = limits ∙ way.script_is.limits;
        apps = ap apps_of others.grown ∙ way.script_is.apps;
        table_apps = way.script_is.table_apps;
        legal = others.legal;
        legal_tables = way.script_is.legal_tables;
      };
      come = OthersAtBus one (both old tables) new way.come others;
      stands = record { bus = stands-others one old new others some way.stands.bus; tables = way.stands.tables; limits = way.stands.limits ∙ sym limits };
      bag = stay old new app one.bag others way.bag;
      held = way.held;
      trace = λ rest owed. subst (λ es. Trace first_registers first_written (app_at script app).lines (es ++ rest)) (sym same) (way.trace rest owed);
      table_trace = way.table_trace;
      told = told-others script one old new tables others way.told;
    }

pub way-tables : TableBagsStay → (script : ScriptText) (bus : Core) (old new : TableCore) (one : Equipped) → CalledByOthersAtTables old new one.progress.running.app →
    1 ≤ one.progress.running.app → IsOnItsWay script (both bus old) one → IsOnItsWay script (both bus new) one
way-tables stay script bus old new one others some way =
    let app = one.progress.running.app in
    let limits : new.limits ≡ old.limits = ap (λ (core : TableCore). core.limits) others.grown in
    let same : own_table_entries app new.log.entries ≡ own_table_entries app old.log.entries =
    ap (λ (core : TableCore). own_table_entries app core.log.entries) others.grown ∙ own-behind_at_tables app old.log.entries others.entries others.by_others in
    record {
      script_is = record {
        limits = way.script_is.limits;
        apps = way.script_is.apps;
        table_apps = ap (λ (core : TableCore). length core.log.budgets) others.grown ∙ way.script_is.table_apps;
        legal = way.script_is.legal;
        legal_tables = others.legal;
      };
      come = OthersAtTables one (both bus old) new way.come others;
      stands = record {
        bus = way.stands.bus;
        tables = stands-others_at_tables one old new others some way.stands.tables;
        limits = limits ∙ way.stands.limits;
      };
      bag = way.bag;
      held = stay old new app one.held others way.held;
      trace = way.trace;
      table_trace = λ rest owed. subst (λ es. TableTrace first_handles (app_at script app).lines (es ++ rest)) (sym same) (way.table_trace rest owed);
      told = told-others_at_tables script one bus old new others way.stands.limits way.told;
    }

-- Its own turn takes it on. --

-- who goes on hasn't ended on the bus
live-for : (waits : Option ℕ) → is_ended (standing_for waits) ≡ false
live-for None = refl
live-for (Some pipe) = refl

live-in : (p : Progress) → p.ended ≡ false → is_ended (standing_in p) ≡ false
live-in p goes_on = ap (λ b. is_ended (cond {A = Standing} b Ended (standing_for p.waits_on))) goes_on ∙ live-for p.waits_on

first-listed : (left : Option Running) → first_left (listed left) ≡ left
first-listed None = refl
first-listed (Some r) = refl

-- it goes on, as what it is
goes-as : (one : Equipped) → one.progress.ended ≡ false → still_going one ≡ Some (running_of one)
goes-as one goes_on = ap (λ b. first_left (cond {A = List Running} b [] (running_of one ∷ []))) goes_on

module _ (script : ScriptText) (before after : Services) (old new : Equipped) (way : IsOnItsWay script before old) (goes_on : old.progress.ended ≡ false)
    (turns : TakesTurn old new before after) where
  abbrev its_turn : SoFar × List Running
  its_turn = turn before.bus.limits (so_far before) (running_of old)

  -- the turn at the bus, by the one application alone: what was met is legal, and what was written agrees with the bag
  at_bus : IsTurn before.bus.limits (apps_of before.bus) (so_far before) (running_of old) (standing_of (state_of before.bus) old.progress.running.app) its_turn
  at_bus =
      turn-in before.bus.limits (apps_of before.bus) (so_far before) (running_of old) (standing_of (state_of before.bus) old.progress.running.app)
      (record { legal = way.script_is.legal; state = refl }) (bag-written before.bus old.progress.running.app old.bag way.bag) refl
      (ap is_ended way.stands.bus.standing ∙ live-in old.progress goes_on)

  at_tables : IsTableTurn before.bus.limits (table_apps_of before.tables) (so_far before) (running_of old) its_turn
  at_tables =
      table-turn-in before.bus.limits (table_apps_of before.tables) (so_far before) (running_of old) (standing_of (state_of before.bus) old.progress.running.app)
      (record {
        legal = subst (λ l. IsLegalAtTables l (table_apps_of before.tables) before.tables.log.entries) way.stands.limits way.script_is.legal_tables;
        tables = ap (λ l. tables_after l (table_apps_of before.tables) before.tables.log.entries) way.stands.limits;
      })
      (way.stands.tables.ended ∙ goes_on) (ap is_ended way.stands.bus.standing ∙ live-in old.progress goes_on)

  -- What the application owed before its turn is what the turn adds, and what it owes then.
  turn-owes : (rest : List Entry) → Owes (standing_in new.progress) (still_going new) rest → Owes (standing_in old.progress) (still_going old) (at_bus.added ++ rest)
  turn-owes rest owed =
      let app = old.progress.running.app in
      let left : still_going new ≡ at_bus.left = ap first_left (turns.goes_on ∙ at_bus.lists) ∙ first-listed at_bus.left in
      let now : standing_in new.progress ≡ at_bus.now =
      sym turns.stands.bus.standing ∙ ap (λ n. standing_of (state_of after.bus) n) turns.same_app
      ∙ ap (λ (b : SoFar). standing_of b.state app) turns.services ∙ at_bus.stands in
      subst (λ o. Owes (standing_in old.progress) o (at_bus.added ++ rest)) (sym (goes-as old goes_on))
      (subst (λ st. Owes st (Some (running_of old)) (at_bus.added ++ rest)) way.stands.bus.standing
      (at_bus.owes rest (subst (λ st. Owes st at_bus.left rest) now (subst (λ o. Owes (standing_in new.progress) o rest) left owed))))

  turn-owes_at_tables : (rest : List TableEntry) → TableOwes (still_going new) rest → TableOwes (still_going old) (at_tables.added ++ rest)
  turn-owes_at_tables rest owed =
      subst (λ o. TableOwes o (at_tables.added ++ rest)) (sym (goes-as old goes_on))
      (at_tables.owes rest (subst (λ rs. TableOwes (first_left rs) rest) turns.goes_on owed))

  turn-history : after.bus.log.entries ≡ before.bus.log.entries ++ at_bus.added
  turn-history = ap (λ (b : SoFar). b.history) turns.services ∙ at_bus.history

  turn-table_history : after.tables.log.entries ≡ before.tables.log.entries ++ at_tables.added
  turn-table_history = ap (λ (b : SoFar). b.table_history) turns.services ∙ at_tables.history

  -- the services after a turn are for the script still, and legal
  turn-script : AreForScript script after
  turn-script =
      let same = moved-same before after old.progress.running.app (record { moved = turns.moved; tables_moved = turns.tables_moved }) in
      let legal = subst (λ (b : SoFar). IsLegal before.bus.limits (apps_of before.bus) b.history) (sym turns.services) at_bus.sound.legal in
      let legal_tables = subst (λ (b : SoFar). IsLegalAtTables before.bus.limits (table_apps_of before.tables) b.table_history) (sym turns.services) at_tables.sound.legal in
      record {
        limits = same.limits ∙ way.script_is.limits;
        apps = same.apps ∙ way.script_is.apps;
        table_apps = same.table_apps ∙ way.script_is.table_apps;
        legal = subst (λ l. IsLegal l (apps_of after.bus) after.bus.log.entries) (sym same.limits)
            (subst (λ n. IsLegal before.bus.limits n after.bus.log.entries) (sym same.apps) legal);
        legal_tables = subst (λ l. IsLegalAtTables l (table_apps_of after.tables) after.tables.log.entries) (sym (same.table_limits ∙ way.stands.limits))
            (subst (λ n. IsLegalAtTables before.bus.limits n after.tables.log.entries) (sym same.table_apps) legal_tables);
      }

  pub way-turn : HasBag after.bus new.progress.running.app new.bag → HasTableBag after.tables new.progress.running.app new.held → IsOnItsWay script after new
  way-turn bag held =
      let app = old.progress.running.app in
      record {
        script_is = turn-script;
        come = ByTurn old new before after way.come turns;
        stands = turns.stands;
        bag = bag;
        held = held;
        trace = λ rest owed.
            let own : own_entries app after.bus.log.entries ≡ own_entries app before.bus.log.entries ++ at_bus.added =
            ap (own_entries app) turn-history ∙ filter-append (λ (e : Entry). e.app == app) before.bus.log.entries at_bus.added
            ∙ ap (λ l. own_entries app before.bus.log.entries ++ l) (all-own app at_bus.added at_bus.own) in
            subst (λ n. Trace first_registers first_written (app_at script n).lines (own_entries n after.bus.log.entries ++ rest)) (sym turns.same_app)
            (subst (λ es. Trace first_registers first_written (app_at script app).lines es)
            (sym (append_assoc (own_entries app before.bus.log.entries) at_bus.added rest) ∙ ap (λ l. l ++ rest) (sym own))
            (way.trace (at_bus.added ++ rest) (turn-owes rest owed)));
        table_trace = λ rest owed.
            let own : own_table_entries app after.tables.log.entries ≡ own_table_entries app before.tables.log.entries ++ at_tables.added =
            ap (own_table_entries app) turn-table_history ∙ filter-append (λ (e : TableEntry). e.app == app) before.tables.log.entries at_tables.added
            ∙ ap (λ l. own_table_entries app before.tables.log.entries ++ l) (all-own_table app at_tables.added at_tables.own) in
            subst (λ n. TableTrace first_handles (app_at script n).lines (own_table_entries n after.tables.log.entries ++ rest)) (sym turns.same_app)
            (subst (λ es. TableTrace first_handles (app_at script app).lines es)
            (sym (append_assoc (own_table_entries app before.tables.log.entries) at_tables.added rest) ∙ ap (λ l. l ++ rest) (sym own))
            (way.table_trace (at_tables.added ++ rest) (turn-owes_at_tables rest owed)));
        told = told-own script old new before after turns way.told;
      }

-- At its end. --

module _ (script : ScriptText) (services : Services) (one : Equipped) (ended : one.progress.ended ≡ true) (way : IsOnItsWay script services one) where
  -- it owes nothing
  pub ended-trace : Trace first_registers first_written (app_at script one.progress.running.app).lines (own_entries one.progress.running.app services.bus.log.entries)
  ended-trace =
      subst (λ es. Trace first_registers first_written (app_at script one.progress.running.app).lines es) (append-nil (own_entries one.progress.running.app services.bus.log.entries))
      (way.trace []
      (subst (λ b. Owes (standing_in one.progress) (first_left (cond {A = List Running} b [] (running_of one ∷ []))) []) (sym ended) refl))

  pub ended-table_trace : TableTrace first_handles (app_at script one.progress.running.app).lines (own_table_entries one.progress.running.app services.tables.log.entries)
  ended-table_trace =
      subst (λ es. TableTrace first_handles (app_at script one.progress.running.app).lines es) (append-nil (own_table_entries one.progress.running.app services.tables.log.entries))
      (way.table_trace [] (subst (λ b. TableOwes (first_left (cond {A = List Running} b [] (running_of one ∷ []))) []) (sym ended) refl))

  -- on the bus it stands as one that has ended
  pub ended-standing : standing_of (state_of services.bus) one.progress.running.app ≡ Ended
  ended-standing = way.stands.bus.standing ∙ ap (λ b. cond {A = Standing} b Ended (standing_for one.progress.waits_on)) ended

  -- and it has told all
  pub ended-told : (entries : Histories) → receipts_told script (histories_with services entries) one.progress.running.app ≡ one.progress.receipts
  ended-told entries =
      let running = running_of one in
      way.told entries
      ∙ ap (λ st. one.progress.receipts ++ told_on st running.app running.lines (telling_now services.bus.limits (so_far services) running entries)) ended-standing
      ∙ append-nil one.progress.receipts
