-- The newest receipts of versions held, after more receipts and after more calls.
use Rattle.std.proofs.Common.{◌≡◌, ℕ, zero, suc, ◌==◌, ◌&&◌, Bool, true, false, cond, eqb-true, true≢false, List, [], ◌∷◌, ◌++◌, drop, Option, Some, None, IfSome, slice_index, unwrap_or, refl, ap, sym, ◌∙◌, subst, append-nil}
use Rattle.std.specs.List.{slice_get}
use Rattle.std.specs.Option.{is_some, option_map, option_or, option_to_list}
use Rattle.fsw_base.specs.Limits.{Limits}
use Rattle.bus_words.specs.declared.calls.BusAnswer.{BusAnswer}
use Rattle.bus_words.specs.declared.calls.BusAnswer.TheVariants.{Got}
use Rattle.bus_words.specs.declared.history.Call.{Call as BusCall}
use Rattle.bus_words.specs.declared.history.Call.TheVariants as bus
use Rattle.bus_words.specs.declared.receipts.Receipt.{Receipt}
use Rattle.bus_words.specs.declared.receipts.Receipt.TheVariants.{Nothing}
use Rattle.bus_words.specs.Bus.{Item, State}
use Rattle.bus_words.specs.Receipts.{message_receipt, receipt_in}
use Rattle.bus_words.proofs.Finds.{same-self}
use Rattle.tbl_words.specs.declared.calls.TblAnswer.{TblAnswer}
use Rattle.tbl_words.specs.declared.calls.TblAnswer.TheVariants.{Address}
use Rattle.tbl_words.specs.declared.history.Call.{Call}
use Rattle.tbl_words.specs.declared.history.Call.TheVariants as calls
use Rattle.tbl_words.specs.declared.history.Entry.{Entry}
use Rattle.tbl_words.specs.Machine.{step, state_after}
use Rattle.tbl_words.specs.Tables.{Hold, State as Tables, opening}
use Rattle.tbl_words.proofs.Replay.{state_from-push}
use Rattle.tbl_load.specs.Notes.{gives_for, is_address}
use Rattle.script_lines.specs.declared.line.Line.{Line}
use Rattle.script_lines.specs.declared.line.Line.TheVariants.{ShowPipe, ShowTable}
use Rattle.script_runs.specs.Told.{addressed_in, got_in, held_in, own_hold, own_last, shown}
use Rattle.script_runs.specs.Trace.{Registers}
use Rattle.script_runs.proofs.HeldReceipts.{held-own}
use Rattle.script_runs.proofs.OwnLasts.{receipt_in-own}
use Rattle.app_run.specs.Received.{held_receipt, version_from, newest_version, RememberHeld}
use Rattle.app_run.proofs.NewestReceipts.{or-none, or-assoc}
use Rattle.app_run.proofs.OwnHolds.{own-from}

-- More receipts. --

newest-append : (receipts more : List Receipt) (handle : ℕ) → newest_version (receipts ++ more) handle ≡ option_or (newest_version more handle) (newest_version receipts handle)
newest-append [] more handle = sym (or-none (newest_version more handle))
newest-append (receipt ∷ newer) more handle =
    ap (λ o. option_or o (version_from receipt handle)) (newest-append newer more handle)
    ∙ or-assoc (newest_version more handle) (newest_version newer handle) (version_from receipt handle)

-- the newest of the receipts from a place on, if none behind that place is of the handle
newest-from : (receipts : List Receipt) (place : ℕ) (receipt : Receipt) (handle : ℕ) → slice_get receipts place ≡ Some receipt →
    newest_version (drop (suc place) receipts) handle ≡ None → newest_version (drop place receipts) handle ≡ version_from receipt handle
newest-from [] place receipt handle here none = absurd (cc here)
newest-from (first ∷ newer) zero receipt handle here none =
    ap (λ o. option_or o (version_from first handle)) none ∙ ap (λ r. version_from r handle) (cc here)
newest-from (first ∷ newer) (suc place) receipt handle here none = newest-from newer place receipt handle here none

-- is the newest of all, if it is there
newest-all : (receipts : List Receipt) (place handle version : ℕ) → newest_version (drop place receipts) handle ≡ Some version → newest_version receipts handle ≡ Some version
newest-all receipts zero handle version is = is
newest-all [] (suc place) handle version is = is
newest-all (first ∷ newer) (suc place) handle version is = ap (λ o. option_or o (version_from first handle)) (newest-all newer place handle version is)

pub version-found : (receipts : List Receipt) (place : ℕ) (receipt : Receipt) (handle : ℕ) (found : Option ℕ) → slice_get receipts place ≡ Some receipt →
    newest_version (drop (suc place) receipts) handle ≡ None → found ≡ version_from receipt handle → is_some found ≡ true → found ≡ newest_version receipts handle
version-found receipts place receipt handle None here none is some = absurd (true≢false (sym some))
version-found receipts place receipt handle (Some version) here none is some =
    sym (newest-all receipts place handle version (newest-from receipts place receipt handle here none ∙ sym is))

pub version-passed : (receipts : List Receipt) (place : ℕ) (receipt : Receipt) (handle : ℕ) (found : Option ℕ) → slice_get receipts place ≡ Some receipt →
    newest_version (drop (suc place) receipts) handle ≡ None → found ≡ version_from receipt handle → is_some found ≡ false → newest_version (drop place receipts) handle ≡ None
version-passed receipts place receipt handle None here none is some = newest-from receipts place receipt handle here none ∙ sym is
version-passed receipts place receipt handle (Some version) here none is some = absurd (true≢false some)

-- the receipts of what is held, if anything
abbrev receipts_for : ℕ → Option Hold → List Receipt
receipts_for handle found = option_to_list (option_map (λ hold. held_receipt handle hold.version hold.value) found)

-- behind its own receipt a version is the newest of its handle
newest-here : (receipts : List Receipt) (handle : ℕ) (hold : Hold) → newest_version (receipts ++ receipts_for handle (Some hold)) handle ≡ Some hold.version
newest-here receipts handle hold =
    newest-append receipts (receipts_for handle (Some hold)) handle
    ∙ ap (λ b. option_or (cond {A = Option ℕ} b (Some hold.version) None) (newest_version receipts handle)) (same-self handle)

-- which changes nothing for another handle
newest-other : (receipts : List Receipt) (from handle : ℕ) (found : Option Hold) → (from == handle) ≡ false →
    newest_version (receipts ++ receipts_for from found) handle ≡ newest_version receipts handle
newest-other receipts from handle None differ = ap (λ rs. newest_version rs handle) (append-nil receipts)
newest-other receipts from handle (Some hold) differ =
    newest-append receipts (receipts_for from (Some hold)) handle
    ∙ ap (λ b. option_or (cond {A = Option ℕ} b (Some hold.version) None) (newest_version receipts handle)) differ

newest-got : (receipts : List Receipt) (handle : ℕ) (found : Option Hold) → IfSome found (λ hold. newest_version (receipts ++ receipts_for handle found) handle ≡ Some hold.version)
newest-got receipts handle None = tt
newest-got receipts handle (Some hold) = newest-here receipts handle hold

-- a receipt that is of no handle
newest-message : (receipts : List Receipt) (pipe handle : ℕ) (found : Option Item) →
    newest_version (receipts ++ option_to_list (option_map (λ item. message_receipt pipe item.number item.message) found)) handle ≡ newest_version receipts handle
newest-message receipts pipe handle None = ap (λ rs. newest_version rs handle) (append-nil receipts)
newest-message receipts pipe handle (Some item) = newest-append receipts (message_receipt pipe item.number item.message ∷ []) handle

newest-nothing : (receipts : List Receipt) (handle : ℕ) → newest_version (receipts ++ Nothing ∷ []) handle ≡ newest_version receipts handle
newest-nothing receipts handle = newest-append receipts (Nothing ∷ []) handle

-- More calls. --

-- the newest receipt of a handle tells the version that it holds
abbrev RemembersOf : List Receipt → Tables → ℕ → ℕ → Type 0
RemembersOf receipts t app handle = IfSome (own_hold t app handle) (λ hold. newest_version receipts handle ≡ Some hold.version)

-- if no address came, the receipts tell the version that was held
remember-kept : (s t : Tables) (app handle : ℕ) (receipts after : List Receipt) → ((hold : Hold) → own_hold t app handle ≡ Some hold → own_hold s app handle ≡ Some hold) →
    newest_version after handle ≡ newest_version receipts handle → RemembersOf receipts s app handle → RemembersOf after t app handle
remember-kept s t app handle receipts after from told remembers = by_hold (own_hold t app handle) refl
  where
    by_hold : (found : Option Hold) → own_hold t app handle ≡ found → IfSome found (λ hold. newest_version after handle ≡ Some hold.version)
    by_hold None is = tt
    by_hold (Some hold) is = told ∙ subst (λ o. IfSome o (λ (h : Hold). newest_version receipts handle ≡ Some h.version)) (from hold is) remembers

-- the receipts of a call that gives the handle an address
told-from : (app : ℕ) (t : Tables) (call : Call) (answer : TblAnswer) (handle : ℕ) → gives_for handle call answer ≡ true →
    addressed_in app t call answer ≡ receipts_for handle (own_hold t app handle)
told-from app t (calls.GetAddress from) (Address told version) handle gives = by_number (from == handle) refl gives
  where
    by_number : (b : Bool) → (from == handle) ≡ b → (b && true) ≡ true → option_to_list (held_in t app from) ≡ receipts_for handle (own_hold t app handle)
    by_number true same gives = ap option_to_list (ap (held_in t app) (eqb-true from handle same) ∙ held-own t app handle)
    by_number false other gives = absurd (true≢false (sym gives))
told-from app t (calls.GetAddress from) answer handle gives = by_number (from == handle) gives
  where
    by_number : (b : Bool) → (b && is_address answer) ≡ true → addressed_in app t (calls.GetAddress from) answer ≡ receipts_for handle (own_hold t app handle)
    by_number true gives = absurd (true≢false (sym gives))
    by_number false gives = absurd (true≢false (sym gives))
told-from app t call answer handle gives = absurd (true≢false (sym gives))

-- of one that gives it none
newest-elsewhere : (receipts : List Receipt) (app : ℕ) (t : Tables) (call : Call) (answer : TblAnswer) (handle : ℕ) → gives_for handle call answer ≡ false →
    newest_version (receipts ++ addressed_in app t call answer) handle ≡ newest_version receipts handle
newest-elsewhere receipts app t (calls.GetAddress from) (Address told version) handle none = by_number (from == handle) refl none
  where
    by_number : (b : Bool) → (from == handle) ≡ b → (b && true) ≡ false → newest_version (receipts ++ option_to_list (held_in t app from)) handle ≡ newest_version receipts handle
    by_number true same none = absurd (true≢false none)
    by_number false other none =
        ap (λ o. newest_version (receipts ++ option_to_list o) handle) (held-own t app from) ∙ newest-other receipts from handle (own_hold t app from) other
newest-elsewhere receipts app t call answer handle none = ap (λ rs. newest_version rs handle) (append-nil receipts)

-- the receipts of an application's own call are remembered
pub remember_held-step : (limits : Limits) (apps : ℕ) (history : List Entry) (app : ℕ) (call : Call) (receipts : List Receipt) → RememberHeld receipts (state_after limits apps history) app →
    RememberHeld (receipts ++ addressed_in app (step limits (state_after limits apps history) app call).1 call (step limits (state_after limits apps history) app call).0)
    (step limits (state_after limits apps history) app call).1 app
remember_held-step limits apps history app call receipts remembers = λ handle.
    let s = state_after limits apps history in
    let t = (step limits s app call).1 in
    let answer = (step limits s app call).0 in
    let e : Entry = record { app = app; call = call; answer = answer } in
    elim (gives_for handle call answer) as (λ b. gives_for handle call answer ≡ b → RemembersOf (receipts ++ addressed_in app t call answer) t app handle) [
      | true ↦ λ gives.
          subst (λ told. RemembersOf (receipts ++ told) t app handle) (sym (told-from app t call answer handle gives)) (newest-got receipts handle (own_hold t app handle))
      | false ↦ λ none.
          remember-kept s t app handle receipts (receipts ++ addressed_in app t call answer)
          (λ hold is. own-from limits apps history e handle hold none (state_from-push limits (opening limits apps) history e) is)
          (newest-elsewhere receipts app t call answer handle none) (remembers handle)
    ] refl

-- more receipts that are of no handle
remember-more : (t : Tables) (app : ℕ) (receipts more : List Receipt) → ((handle : ℕ) → newest_version (receipts ++ more) handle ≡ newest_version receipts handle) →
    RememberHeld receipts t app → RememberHeld (receipts ++ more) t app
remember-more t app receipts more same remembers = λ handle. remember-kept t t app handle receipts (receipts ++ more) (λ hold is. is) (same handle) (remembers handle)

newest-receipt : (receipts : List Receipt) (app : ℕ) (s : State) (pipe handle : ℕ) → newest_version (receipts ++ option_to_list (receipt_in s app pipe)) handle ≡ newest_version receipts handle
newest-receipt receipts app s pipe handle =
    ap (λ o. newest_version (receipts ++ option_to_list o) handle) (receipt_in-own s app pipe) ∙ newest-message receipts pipe handle (own_last s.pipes app pipe)

-- what a call of the bus got says nothing of tables
pub remember_held-got : (t : Tables) (s : State) (app : ℕ) (call : BusCall) (answer : BusAnswer) (receipts : List Receipt) → RememberHeld receipts t app →
    RememberHeld (receipts ++ got_in app s call answer) t app
remember_held-got t s app (bus.Receive pipe) (Got number) receipts remembers = remember-more t app receipts _ (newest-receipt receipts app s pipe) remembers
remember_held-got t s app (bus.Pend pipe) (Got number) receipts remembers = remember-more t app receipts _ (newest-receipt receipts app s pipe) remembers
remember_held-got t s app (bus.Look pipe) (Got number) receipts remembers = remember-more t app receipts _ (newest-receipt receipts app s pipe) remembers
remember_held-got t s app call answer receipts remembers = subst (λ rs. RememberHeld rs t app) (sym (append-nil receipts)) remembers

-- Lines that no service sees. --

-- what is shown of a handle
abbrev shows : ℕ → Option Hold → List Receipt
shows handle found = unwrap_or (option_map (λ hold. held_receipt handle hold.version hold.value) found) Nothing ∷ []

shows-here : (receipts : List Receipt) (handle : ℕ) (found : Option Hold) → IfSome found (λ hold. newest_version (receipts ++ shows handle found) handle ≡ Some hold.version)
shows-here receipts handle None = tt
shows-here receipts handle (Some hold) = newest-here receipts handle hold

shows-other : (receipts : List Receipt) (from handle : ℕ) (found : Option Hold) → (from == handle) ≡ false → newest_version (receipts ++ shows from found) handle ≡ newest_version receipts handle
shows-other receipts from handle None differ = newest-nothing receipts handle
shows-other receipts from handle (Some hold) differ = newest-other receipts from handle (Some hold) differ

remember-shows : (t : Tables) (app from : ℕ) (receipts : List Receipt) → RememberHeld receipts t app → RememberHeld (receipts ++ shows from (own_hold t app from)) t app
remember-shows t app from receipts remembers = λ handle.
    elim (from == handle) as (λ b. (from == handle) ≡ b → RemembersOf (receipts ++ shows from (own_hold t app from)) t app handle) [
      | true ↦ λ is. subst (λ h. RemembersOf (receipts ++ shows from (own_hold t app from)) t app h) (eqb-true from handle is) (shows-here receipts from (own_hold t app from))
      | false ↦ λ differ.
          remember-kept t t app handle receipts (receipts ++ shows from (own_hold t app from)) (λ hold is. is)
          (shows-other receipts from handle (own_hold t app from) differ) (remembers handle)
    ] refl

-- what is shown of a pipe says nothing of tables
shows-message : (receipts : List Receipt) (pipe handle : ℕ) (found : Option Item) →
    newest_version (receipts ++ unwrap_or (option_map (λ item. message_receipt pipe item.number item.message) found) Nothing ∷ []) handle ≡ newest_version receipts handle
shows-message receipts pipe handle None = newest-nothing receipts handle
shows-message receipts pipe handle (Some item) = newest-message receipts pipe handle (Some item)

pub remember_held-shown : (s : State) (t : Tables) (app : ℕ) (registers : Registers) (handles : List ℕ) (line : Line) (receipts : List Receipt) → RememberHeld receipts t app →
    RememberHeld (receipts ++ shown app s t registers handles line) t app
unfolding shown
remember_held-shown s t app registers handles (ShowPipe pipe) receipts remembers =
    let from = slice_index registers.pipes pipe in
    remember-more t app receipts _
    (λ handle.
    ap (λ o. newest_version (receipts ++ unwrap_or o Nothing ∷ []) handle) (receipt_in-own s app from) ∙ shows-message receipts from handle (own_last s.pipes app from))
    remembers
remember_held-shown s t app registers handles (ShowTable handle) receipts remembers =
    let from = slice_index handles handle in
    subst (λ o. RememberHeld (receipts ++ unwrap_or o Nothing ∷ []) t app) (sym (held-own t app from)) (remember-shows t app from receipts remembers)
remember_held-shown s t app registers handles line receipts remembers = subst (λ rs. RememberHeld rs t app) (sym (append-nil receipts)) remembers
