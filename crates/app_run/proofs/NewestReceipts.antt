-- The newest receipts, after more receipts and after more calls.
use Rattle.std.proofs.Common.{◌≡◌, ℕ, zero, suc, ◌==◌, true, false, cond, eqb-true, true≢false, IsTrue, List, [], ◌∷◌, ◌++◌, drop, Option, Some, None, IfSome, slice_index, unwrap_or, refl, ap, sym, ◌∙◌, subst, append-nil}
use Rattle.std.specs.List.{slice_get}
use Rattle.std.specs.Option.{is_some, option_map, option_or, option_to_list}
use Rattle.fsw_base.specs.Limits.{Limits}
use Rattle.bus_words.specs.declared.calls.BusAnswer.{BusAnswer}
use Rattle.bus_words.specs.declared.calls.BusAnswer.TheVariants.{Got}
use Rattle.bus_words.specs.declared.history.Call.{Call}
use Rattle.bus_words.specs.declared.history.Call.TheVariants as calls
use Rattle.bus_words.specs.declared.history.Entry.{Entry}
use Rattle.bus_words.specs.declared.receipts.Receipt.{Receipt}
use Rattle.bus_words.specs.declared.receipts.Receipt.TheVariants.{Nothing}
use Rattle.bus_words.specs.Alone.{gets_from}
use Rattle.bus_words.specs.Bus.{Item, State, standing_of}
use Rattle.bus_words.specs.Machine.{step, may_call}
use Rattle.bus_words.specs.Receipts.{message_receipt, receipt_in}
use Rattle.bus_words.proofs.Finds.{same-self, same-sym}
use Rattle.bus_words.proofs.LegalSteps.{AreWaiters}
use Rattle.tbl_words.specs.declared.calls.TblAnswer.{TblAnswer}
use Rattle.tbl_words.specs.declared.calls.TblAnswer.TheVariants.{Address}
use Rattle.tbl_words.specs.declared.history.Call.{Call as TableCall}
use Rattle.tbl_words.specs.declared.history.Call.TheVariants as table_calls
use Rattle.tbl_words.specs.Tables.{Hold, State as Tables}
use Rattle.script_lines.specs.declared.line.Line.{Line}
use Rattle.script_lines.specs.declared.line.Line.TheVariants.{ShowPipe, ShowTable}
use Rattle.script_runs.specs.Told.{addressed_in, got_in, own_hold, own_last, shown}
use Rattle.script_runs.specs.Trace.{Registers}
use Rattle.script_runs.proofs.HeldReceipts.{held-own}
use Rattle.script_runs.proofs.OwnLasts.{receipt_in-own, own-from}
use Rattle.app_run.specs.Received.{held_receipt, number_from, newest_number, Remember}

-- More receipts. --

pub or-none : {X : Type 0} (o : Option X) → option_or o None ≡ o
or-none None = refl
or-none (Some x) = refl

pub or-assoc : {X : Type 0} (a b c : Option X) → option_or (option_or a b) c ≡ option_or a (option_or b c)
or-assoc None b c = refl
or-assoc (Some x) b c = refl

newest-append : (receipts more : List Receipt) (pipe : ℕ) → newest_number (receipts ++ more) pipe ≡ option_or (newest_number more pipe) (newest_number receipts pipe)
newest-append [] more pipe = sym (or-none (newest_number more pipe))
newest-append (receipt ∷ newer) more pipe =
    ap (λ o. option_or o (number_from receipt pipe)) (newest-append newer more pipe)
    ∙ or-assoc (newest_number more pipe) (newest_number newer pipe) (number_from receipt pipe)

-- the newest of the receipts from a place on, if none behind that place is from the pipe
newest-from : (receipts : List Receipt) (place : ℕ) (receipt : Receipt) (pipe : ℕ) → slice_get receipts place ≡ Some receipt →
    newest_number (drop (suc place) receipts) pipe ≡ None → newest_number (drop place receipts) pipe ≡ number_from receipt pipe
newest-from [] place receipt pipe here none = absurd (cc here)
newest-from (first ∷ newer) zero receipt pipe here none =
    ap (λ o. option_or o (number_from first pipe)) none ∙ ap (λ r. number_from r pipe) (cc here)
newest-from (first ∷ newer) (suc place) receipt pipe here none = newest-from newer place receipt pipe here none

-- is the newest of all, if it is there
newest-all : (receipts : List Receipt) (place pipe number : ℕ) → newest_number (drop place receipts) pipe ≡ Some number → newest_number receipts pipe ≡ Some number
newest-all receipts zero pipe number is = is
newest-all [] (suc place) pipe number is = is
newest-all (first ∷ newer) (suc place) pipe number is = ap (λ o. option_or o (number_from first pipe)) (newest-all newer place pipe number is)

pub newest-found : (receipts : List Receipt) (place : ℕ) (receipt : Receipt) (pipe : ℕ) (found : Option ℕ) → slice_get receipts place ≡ Some receipt →
    newest_number (drop (suc place) receipts) pipe ≡ None → found ≡ number_from receipt pipe → is_some found ≡ true → found ≡ newest_number receipts pipe
newest-found receipts place receipt pipe None here none is some = absurd (true≢false (sym some))
newest-found receipts place receipt pipe (Some number) here none is some =
    sym (newest-all receipts place pipe number (newest-from receipts place receipt pipe here none ∙ sym is))

pub newest-passed : (receipts : List Receipt) (place : ℕ) (receipt : Receipt) (pipe : ℕ) (found : Option ℕ) → slice_get receipts place ≡ Some receipt →
    newest_number (drop (suc place) receipts) pipe ≡ None → found ≡ number_from receipt pipe → is_some found ≡ false → newest_number (drop place receipts) pipe ≡ None
newest-passed receipts place receipt pipe None here none is some = newest-from receipts place receipt pipe here none ∙ sym is
newest-passed receipts place receipt pipe (Some number) here none is some = absurd (true≢false some)

-- the receipts of a message, if there is one
abbrev receipts_for : ℕ → Option Item → List Receipt
receipts_for pipe found = option_to_list (option_map (λ item. message_receipt pipe item.number item.message) found)

-- behind its own receipt a message is the newest of its pipe
newest-here : (receipts : List Receipt) (pipe : ℕ) (item : Item) → newest_number (receipts ++ receipts_for pipe (Some item)) pipe ≡ Some item.number
newest-here receipts pipe item =
    newest-append receipts (receipts_for pipe (Some item)) pipe
    ∙ ap (λ b. option_or (cond {A = Option ℕ} b (Some item.number) None) (newest_number receipts pipe)) (same-self pipe)

-- which changes nothing for another pipe
newest-other : (receipts : List Receipt) (from pipe : ℕ) (found : Option Item) → (from == pipe) ≡ false →
    newest_number (receipts ++ receipts_for from found) pipe ≡ newest_number receipts pipe
newest-other receipts from pipe None differ = ap (λ rs. newest_number rs pipe) (append-nil receipts)
newest-other receipts from pipe (Some item) differ =
    newest-append receipts (receipts_for from (Some item)) pipe
    ∙ ap (λ b. option_or (cond {A = Option ℕ} b (Some item.number) None) (newest_number receipts pipe)) differ

newest-got : (receipts : List Receipt) (pipe : ℕ) (found : Option Item) → IfSome found (λ item. newest_number (receipts ++ receipts_for pipe found) pipe ≡ Some item.number)
newest-got receipts pipe None = tt
newest-got receipts pipe (Some item) = newest-here receipts pipe item

-- More calls. --

-- the newest receipt from a pipe tells its last message
abbrev RemembersOf : List Receipt → State → ℕ → ℕ → Type 0
RemembersOf receipts t app pipe = IfSome (own_last t.pipes app pipe) (λ item. newest_number receipts pipe ≡ Some item.number)

-- the receipts of a call that gives a message from the pipe
told-from : (app : ℕ) (t : State) (call : Call) (answer : BusAnswer) (pipe : ℕ) → gets_from pipe (record { app = app; call = call; answer = answer }) ≡ true →
    got_in app t call answer ≡ receipts_for pipe (own_last t.pipes app pipe)
told-from app t (calls.Receive from) (Got number) pipe gets = ap option_to_list (ap (receipt_in t app) (sym (eqb-true pipe from gets)) ∙ receipt_in-own t app pipe)
told-from app t (calls.Pend from) (Got number) pipe gets = ap option_to_list (ap (receipt_in t app) (sym (eqb-true pipe from gets)) ∙ receipt_in-own t app pipe)
told-from app t (calls.Look from) (Got number) pipe gets = ap option_to_list (ap (receipt_in t app) (sym (eqb-true pipe from gets)) ∙ receipt_in-own t app pipe)
told-from app t call answer pipe gets = absurd (true≢false (sym gets))

-- of one that gives none from it
newest-receipt : (receipts : List Receipt) (app : ℕ) (t : State) (from pipe : ℕ) → (pipe == from) ≡ false → newest_number (receipts ++ option_to_list (receipt_in t app from)) pipe ≡ newest_number receipts pipe
newest-receipt receipts app t from pipe differ =
    ap (λ o. newest_number (receipts ++ option_to_list o) pipe) (receipt_in-own t app from)
    ∙ newest-other receipts from pipe (own_last t.pipes app from) (same-sym from pipe ∙ differ)

newest-elsewhere : (receipts : List Receipt) (app : ℕ) (t : State) (call : Call) (answer : BusAnswer) (pipe : ℕ) → gets_from pipe (record { app = app; call = call; answer = answer }) ≡ false →
    newest_number (receipts ++ got_in app t call answer) pipe ≡ newest_number receipts pipe
newest-elsewhere receipts app t (calls.Receive from) (Got number) pipe none = newest-receipt receipts app t from pipe none
newest-elsewhere receipts app t (calls.Pend from) (Got number) pipe none = newest-receipt receipts app t from pipe none
newest-elsewhere receipts app t (calls.Look from) (Got number) pipe none = newest-receipt receipts app t from pipe none
newest-elsewhere receipts app t call answer pipe none = ap (λ rs. newest_number rs pipe) (append-nil receipts)

-- if no message came, the receipts tell the one that was
remember-kept : (s t : State) (app pipe : ℕ) (receipts after : List Receipt) → ((item : Item) → own_last t.pipes app pipe ≡ Some item → own_last s.pipes app pipe ≡ Some item) →
    newest_number after pipe ≡ newest_number receipts pipe → RemembersOf receipts s app pipe → RemembersOf after t app pipe
remember-kept s t app pipe receipts after from told remembers = by_last (own_last t.pipes app pipe) refl
  where
    by_last : (found : Option Item) → own_last t.pipes app pipe ≡ found → IfSome found (λ item. newest_number after pipe ≡ Some item.number)
    by_last None is = tt
    by_last (Some item) is = told ∙ subst (λ o. IfSome o (λ (i : Item). newest_number receipts pipe ≡ Some i.number)) (from item is) remembers

-- a call's receipts are remembered
pub remember-step : (limits : Limits) (history : List Entry) (s : State) (app : ℕ) (call : Call) (receipts : List Receipt) → AreWaiters s → IsTrue (may_call (standing_of s app) call) →
    Remember receipts s app → Remember (receipts ++ got_in app (step limits history s app call).1 call (step limits history s app call).0) (step limits history s app call).1 app
remember-step limits history s app call receipts waiters may remembers = λ pipe.
    let t = (step limits history s app call).1 in
    let answer = (step limits history s app call).0 in
    let e : Entry = record { app = app; call = call; answer = answer } in
    elim (gets_from pipe e) as (λ b. gets_from pipe e ≡ b → RemembersOf (receipts ++ got_in app t call answer) t app pipe) [
      | true ↦ λ gets.
          subst (λ told. RemembersOf (receipts ++ told) t app pipe) (sym (told-from app t call answer pipe gets)) (newest-got receipts pipe (own_last t.pipes app pipe))
      | false ↦ λ none.
          remember-kept s t app pipe receipts (receipts ++ got_in app t call answer)
          (λ item is. own-from limits history s app pipe call waiters may item none is)
          (newest-elsewhere receipts app t call answer pipe none) (remembers pipe)
    ] refl

-- Lines that no service sees. --

newest-nothing : (receipts : List Receipt) (pipe : ℕ) → newest_number (receipts ++ Nothing ∷ []) pipe ≡ newest_number receipts pipe
newest-nothing receipts pipe = newest-append receipts (Nothing ∷ []) pipe

-- what is shown of a pipe
abbrev shows : ℕ → Option Item → List Receipt
shows pipe found = unwrap_or (option_map (λ item. message_receipt pipe item.number item.message) found) Nothing ∷ []

shows-here : (receipts : List Receipt) (pipe : ℕ) (found : Option Item) → IfSome found (λ item. newest_number (receipts ++ shows pipe found) pipe ≡ Some item.number)
shows-here receipts pipe None = tt
shows-here receipts pipe (Some item) = newest-here receipts pipe item

shows-other : (receipts : List Receipt) (from pipe : ℕ) (found : Option Item) → (from == pipe) ≡ false → newest_number (receipts ++ shows from found) pipe ≡ newest_number receipts pipe
shows-other receipts from pipe None differ = newest-nothing receipts pipe
shows-other receipts from pipe (Some item) differ = newest-other receipts from pipe (Some item) differ

remember-shows : (s : State) (app from : ℕ) (receipts : List Receipt) → Remember receipts s app → Remember (receipts ++ shows from (own_last s.pipes app from)) s app
remember-shows s app from receipts remembers = λ pipe.
    elim (from == pipe) as (λ b. (from == pipe) ≡ b → RemembersOf (receipts ++ shows from (own_last s.pipes app from)) s app pipe) [
      | true ↦ λ is. subst (λ p. RemembersOf (receipts ++ shows from (own_last s.pipes app from)) s app p) (eqb-true from pipe is) (shows-here receipts from (own_last s.pipes app from))
      | false ↦ λ differ.
          remember-kept s s app pipe receipts (receipts ++ shows from (own_last s.pipes app from)) (λ item is. is)
          (shows-other receipts from pipe (own_last s.pipes app from) differ) (remembers pipe)
    ] refl

-- what is told of tables says nothing of pipes
newest-held : (receipts : List Receipt) (handle pipe : ℕ) (found : Option Hold) →
    newest_number (receipts ++ option_to_list (option_map (λ hold. held_receipt handle hold.version hold.value) found)) pipe ≡ newest_number receipts pipe
newest-held receipts handle pipe None = ap (λ rs. newest_number rs pipe) (append-nil receipts)
newest-held receipts handle pipe (Some hold) = newest-append receipts (held_receipt handle hold.version hold.value ∷ []) pipe

shows-held : (receipts : List Receipt) (handle pipe : ℕ) (found : Option Hold) →
    newest_number (receipts ++ unwrap_or (option_map (λ hold. held_receipt handle hold.version hold.value) found) Nothing ∷ []) pipe ≡ newest_number receipts pipe
shows-held receipts handle pipe None = newest-nothing receipts pipe
shows-held receipts handle pipe (Some hold) = newest-held receipts handle pipe (Some hold)

-- more receipts that are from no pipe
remember-more : (s : State) (app : ℕ) (receipts more : List Receipt) → ((pipe : ℕ) → newest_number (receipts ++ more) pipe ≡ newest_number receipts pipe) →
    Remember receipts s app → Remember (receipts ++ more) s app
remember-more s app receipts more same remembers = λ pipe. remember-kept s s app pipe receipts (receipts ++ more) (λ item is. is) (same pipe) (remembers pipe)

pub remember-addressed : (s : State) (t : Tables) (app : ℕ) (call : TableCall) (answer : TblAnswer) (receipts : List Receipt) → Remember receipts s app →
    Remember (receipts ++ addressed_in app t call answer) s app
remember-addressed s t app (table_calls.GetAddress handle) (Address told version) receipts remembers =
    remember-more s app receipts _
    (λ pipe. ap (λ o. newest_number (receipts ++ option_to_list o) pipe) (held-own t app handle) ∙ newest-held receipts handle pipe (own_hold t app handle))
    remembers
remember-addressed s t app call answer receipts remembers = subst (λ rs. Remember rs s app) (sym (append-nil receipts)) remembers

pub remember-shown : (s : State) (t : Tables) (app : ℕ) (registers : Registers) (handles : List ℕ) (line : Line) (receipts : List Receipt) → Remember receipts s app →
    Remember (receipts ++ shown app s t registers handles line) s app
unfolding shown
remember-shown s t app registers handles (ShowPipe pipe) receipts remembers =
    let from = slice_index registers.pipes pipe in
    subst (λ o. Remember (receipts ++ unwrap_or o Nothing ∷ []) s app) (sym (receipt_in-own s app from)) (remember-shows s app from receipts remembers)
remember-shown s t app registers handles (ShowTable handle) receipts remembers =
    let from = slice_index handles handle in
    remember-more s app receipts _
    (λ pipe. ap (λ o. newest_number (receipts ++ unwrap_or o Nothing ∷ []) pipe) (held-own t app from) ∙ shows-held receipts from pipe (own_hold t app from))
    remembers
remember-shown s t app registers handles line receipts remembers = subst (λ rs. Remember rs s app) (sym (append-nil receipts)) remembers
