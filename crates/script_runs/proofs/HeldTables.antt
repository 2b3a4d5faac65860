-- What a handle holds stays, with its version and its bytes, from the address that gave it until the handle lets go of it.
use Rattle.std.proofs.Common.{◌≡◌, ℕ, ◌==◌, ◌&&◌, ◌||◌, not, Bool, true, false, cond, true≢false, eqb-true, eq-eqb, List, [], ◌∷◌, ◌++◌, append-nil, append_assoc, All, Option, Some, None, refl, ap, sym, ◌∙◌, subst}
use Rattle.std.proofs.lemmas.List.Elements.{All-head, All-tail}
use Rattle.std.specs.Option.{option_map_or, option_and_then}
use Rattle.fsw_base.specs.Limits.{Limits}
use Rattle.tbl_words.specs.declared.statuses.TblStatus.{TblStatus}
use Rattle.tbl_words.specs.declared.statuses.TblStatus.TheVariants.{ErrInvalidHandle, ErrNoAccess}
use Rattle.tbl_words.specs.declared.calls.Told.{Told}
use Rattle.tbl_words.specs.declared.calls.TblAnswer.{TblAnswer}
use Rattle.tbl_words.specs.declared.calls.TblAnswer.TheVariants as answers
use Rattle.tbl_words.specs.declared.history.Call.{Call}
use Rattle.tbl_words.specs.declared.history.Call.TheVariants.{Register, Share, Unregister, Stage, Validate, Update, Abort, Load, GetAddress, ReleaseAddress, Status, End}
use Rattle.tbl_words.specs.declared.history.Entry.{Entry}
use Rattle.tbl_words.specs.Holds.{hold_of}
use Rattle.tbl_words.specs.Machine.{IsLegal, LegalFrom, cause, outcome, refused_if, step, state_after, state_from, table_cause, told_of, unregistered_cause, with_hold}
use Rattle.tbl_words.specs.Tables.{Handle, Hold, State, Table, handle_at, is_live, opening, owns, table_at, table_of, with_handle}
use Rattle.tbl_words.proofs.Holds.{addresses_hold, holds_stay}
use Rattle.tbl_words.proofs.Orders.{handles_rise}
use Rattle.tbl_words.proofs.Others.{Rise, owner_alone}
use Rattle.tbl_words.proofs.Replay.{state_from-push}
use Rattle.script_runs.specs.Stays.{TablesStay, call_ends_hold, ends_hold}
use Rattle.script_runs.specs.Told.{own_hold}
use Rattle.script_runs.proofs.HeldReceipts.{own_hold-other}
use Rattle.script_runs.proofs.Unwritten.{found-unwritten, lies-after}

abbrev held_as : ℕ → List ℕ → Hold
held_as version value = record { version = version; value = value }

-- Handles. --

-- who holds something is a live handle
held-live : (handles : List Handle) (n : ℕ) (hold : Hold) → hold_of handles n ≡ Some hold → (h : Handle) × (handle_at handles n ≡ Some h)
held-live handles n hold held = by_handle (handle_at handles n) held
  where
    by_handle : (o : Option Handle) → option_and_then (λ (h : Handle). h.hold) o ≡ Some hold → (h : Handle) × (o ≡ Some h)
    by_handle None none = absurd (cc none)
    by_handle (Some h) is = (h, refl)

-- and its application's
live-owned : (handles : List Handle) (n : ℕ) (h : Handle) → handle_at handles n ≡ Some h → owns handles h.app n ≡ true
live-owned [] n h found = absurd (cc found)
live-owned (x ∷ handles) n h found =
    elim (x.number == n) as (λ b. cond {A = Option Handle} b (Some x) (handle_at handles n) ≡ Some h → ((b && x.app == h.app) || owns handles h.app n) ≡ true) [
      | true ↦ λ here.
          let same : x ≡ h = cc here in
          ap (λ b. b || owns handles h.app n) (eq-eqb x.app h.app (ap (λ (k : Handle). k.app) same))
      | false ↦ λ there. live-owned handles n h there
    ] found

-- which is one
found-owner : (handles : List Handle) (app n : ℕ) (h : Handle) → All (λ (k : Handle). (k.number == n) ≡ true → k.app ≡ app) handles → handle_at handles n ≡ Some h → h.app ≡ app
found-owner [] app n h all found = absurd (cc found)
found-owner (x ∷ handles) app n h all found =
    elim (x.number == n) as (λ b. (x.number == n) ≡ b → cond {A = Option Handle} b (Some x) (handle_at handles n) ≡ Some h → h.app ≡ app) [
      | true ↦ λ is here.
          let same : x ≡ h = cc here in
          ap (λ (k : Handle). k.app) (sym same) ∙ All-head (λ (k : Handle). (k.number == n) ≡ true → k.app ≡ app) x handles all is
      | false ↦ λ is there. found-owner handles app n h (All-tail (λ (k : Handle). (k.number == n) ≡ true → k.app ≡ app) x handles all) there
    ] refl found

own_hold-some : (s : State) (app n : ℕ) (hold : Hold) → own_hold s app n ≡ Some hold → (owns s.handles app n ≡ true) × (hold_of s.handles n ≡ Some hold)
own_hold-some s app n hold is =
    elim (owns s.handles app n) as (λ b. owns s.handles app n ≡ b → cond {A = Option Hold} b (hold_of s.handles n) None ≡ Some hold → (owns s.handles app n ≡ true) × (hold_of s.handles n ≡ Some hold)) [
      | true ↦ λ own held. (own, held)
      | false ↦ λ out none. absurd (cc none)
    ] refl is

own_hold-is : (s : State) (app n : ℕ) (hold : Hold) → owns s.handles app n ≡ true → hold_of s.handles n ≡ Some hold → own_hold s app n ≡ Some hold
own_hold-is s app n hold own held = ap (λ b. cond {A = Option Hold} b (hold_of s.handles n) None) own ∙ held

-- what a handle holds after its application's call is still that application's, as no other came by it
own-still : (limits : Limits) (apps app n : ℕ) (history : List Entry) (call : Call) (hold : Hold) → owns (state_after limits apps history).handles app n ≡ true →
    hold_of ((step limits (state_after limits apps history) app call).1).handles n ≡ Some hold → own_hold ((step limits (state_after limits apps history) app call).1) app n ≡ Some hold
own-still limits apps app n history call hold own held =
    let live = held-live next.handles n hold held in
    by_app live.0 (live-owned next.handles n live.0 live.1) (live.0.app == app) refl
  where
    s : State
    s = state_after limits apps history

    next : State
    next = (step limits s app call).1

    rise : Rise s.handles
    rise = handles_rise limits apps history

    by_app : (h : Handle) → owns next.handles h.app n ≡ true → (b : Bool) → (h.app == app) ≡ b → own_hold next app n ≡ Some hold
    by_app h his true is = own_hold-is next app n hold (ap (λ a. owns next.handles a n) (sym (eqb-true h.app app is)) ∙ his) held
    by_app h his false differ =
        let apart : ¬ (app ≡ h.app) = λ same. true≢false (sym (eq-eqb h.app app (sym same)) ∙ differ) in
        let was = own_hold-some s h.app n hold (sym (own_hold-other limits apps h.app n history app call apart) ∙ own_hold-is next h.app n hold his held) in
        let live = held-live s.handles n hold was.1 in
        let one = found-owner s.handles h.app n live.0 (owner_alone s.handles h.app n rise was.0) live.1 in
        let two = found-owner s.handles app n live.0 (owner_alone s.handles app n rise own) live.1 in
        absurd (apart (sym two ∙ one))

-- One entry. --

-- an application's own call, so answered, that doesn't end what the handle holds
module _ (limits : Limits) (s : State) (app n : ℕ) where
  still-address : (other : ℕ) (answer : TblAnswer) → answer ≡ (step limits s app (GetAddress other)).0 → call_ends_hold n (GetAddress other) answer ≡ false →
      hold_of ((step limits s app (GetAddress other)).1).handles n ≡ hold_of s.handles n
  still-address other answer answered free = by_number (other == n) refl
    where
      after : Option Table → State
      after found = option_map_or (λ (t : Table). record s { handles = with_handle (with_hold t.version t.value) other s.handles }) found s

      told : Option Handle → Option Table → TblAnswer
      told o found = option_map_or (λ (h : Handle). option_map_or (λ (t : Table). answers.Address (told_of t h) t.version) found (answers.Refused ErrInvalidHandle)) o (answers.Refused ErrInvalidHandle)

      by_table : (o : Option Handle) (found : Option Table) → (o ≡ None → found ≡ None) → answer ≡ told o found → (other == n) ≡ true → hold_of (after found).handles n ≡ hold_of s.handles n
      by_table o None none is same = refl
      by_table None (Some t) none is same = absurd (cc (none refl))
      by_table (Some h) (Some t) none is same = absurd (true≢false (sym same ∙ sym (ap (call_ends_hold n (GetAddress other)) is) ∙ free))

      by_cause : (why : Option TblStatus) → answer ≡ (outcome limits s app (GetAddress other) why).0 → (other == n) ≡ true → hold_of ((outcome limits s app (GetAddress other) why).1).handles n ≡ hold_of s.handles n
      by_cause (Some status) is same = refl
      by_cause None is same =
          by_table (handle_at s.handles other) (table_of s other) (λ none. ap (option_and_then (λ (h : Handle). table_at s.tables h.table)) none) is same

      by_number : (b : Bool) → (other == n) ≡ b → hold_of ((step limits s app (GetAddress other)).1).handles n ≡ hold_of s.handles n
      by_number true same = by_cause (cause limits s app (GetAddress other)) answered same
      by_number false differ = holds_stay limits s app (GetAddress other) n (ap (λ b. b && owns s.handles app n) differ)

  still-call : (call : Call) (answer : TblAnswer) → answer ≡ (step limits s app call).0 → call_ends_hold n call answer ≡ false → hold_of ((step limits s app call).1).handles n ≡ hold_of s.handles n
  still-call (Register name size option rules) answer answered free = holds_stay limits s app (Register name size option rules) n refl
  still-call (Share name) answer answered free = holds_stay limits s app (Share name) n refl
  still-call (Unregister other) answer answered free = holds_stay limits s app (Unregister other) n (ap (λ b. b && owns s.handles app n) free)
  still-call (Stage other offset bytes) answer answered free = holds_stay limits s app (Stage other offset bytes) n refl
  still-call (Validate other) answer answered free = holds_stay limits s app (Validate other) n refl
  still-call (Update other) answer answered free = holds_stay limits s app (Update other) n refl
  still-call (Abort other) answer answered free = holds_stay limits s app (Abort other) n refl
  still-call (Load other offset bytes) answer answered free = holds_stay limits s app (Load other offset bytes) n refl
  still-call (GetAddress other) answer answered free = still-address other answer answered free
  still-call (ReleaseAddress other) answer answered free = holds_stay limits s app (ReleaseAddress other) n (ap (λ b. b && owns s.handles app n) free)
  still-call (Status other) answer answered free = holds_stay limits s app (Status other) n refl
  still-call End answer answered free = absurd (true≢false free)

-- an entry, whoever's, that doesn't end what the application's handle holds
hold-step : (limits : Limits) (apps app n : ℕ) (history : List Entry) (e : Entry) (hold : Hold) → e.answer ≡ (step limits (state_after limits apps history) e.app e.call).0 → ends_hold app n e ≡ false →
    own_hold (state_after limits apps history) app n ≡ Some hold → own_hold (state_after limits apps (history ++ e ∷ [])) app n ≡ Some hold
hold-step limits apps app n history e hold answered free held =
    ap (λ t. own_hold t app n) (state_from-push limits (opening limits apps) history e) ∙ by_app (e.app == app) refl
  where
    s : State
    s = state_after limits apps history

    was : (owns s.handles app n ≡ true) × (hold_of s.handles n ≡ Some hold)
    was = own_hold-some s app n hold held

    by_app : (b : Bool) → (e.app == app) ≡ b → own_hold ((step limits s e.app e.call).1) app n ≡ Some hold
    by_app true is =
        let same : e.app ≡ app = eqb-true e.app app is in
        subst (λ a. own_hold ((step limits s e.app e.call).1) a n ≡ Some hold) same
        (own-still limits apps e.app n history e.call hold (ap (λ a. owns s.handles a n) same ∙ was.0)
        (still-call limits s e.app n e.call e.answer answered (sym (ap (λ b. b && call_ends_hold n e.call e.answer) is) ∙ free) ∙ was.1))
    by_app false differ = own_hold-other limits apps app n history e.app e.call (λ same. true≢false (sym (eq-eqb e.app app same) ∙ differ)) ∙ held

-- Histories. --

legal-front : (limits : Limits) (s : State) (es rest : List Entry) → LegalFrom limits s (es ++ rest) → LegalFrom limits s es
legal-front limits s [] rest legal = tt
legal-front limits s (e ∷ es) rest legal = (legal.0, legal.1, legal-front limits ((step limits s e.app e.call).1) es rest legal.2)

legal-behind : (limits : Limits) (s : State) (es rest : List Entry) → LegalFrom limits s (es ++ rest) → LegalFrom limits (state_from limits s es) rest
legal-behind limits s [] rest legal = legal
legal-behind limits s (e ∷ es) rest legal = legal-behind limits ((step limits s e.app e.call).1) es rest legal.2

hold-between : (limits : Limits) (apps app n : ℕ) (history between : List Entry) (hold : Hold) → LegalFrom limits (state_after limits apps history) between → All (λ e. ends_hold app n e ≡ false) between →
    own_hold (state_after limits apps history) app n ≡ Some hold → own_hold (state_after limits apps (history ++ between)) app n ≡ Some hold
hold-between limits apps app n history [] hold legal free held = subst (λ h. own_hold (state_after limits apps h) app n ≡ Some hold) (sym (append-nil history)) held
hold-between limits apps app n history (e ∷ es) hold legal free held =
    subst (λ h. own_hold (state_after limits apps h) app n ≡ Some hold) (append_assoc history (e ∷ []) es)
    (hold-between limits apps app n (history ++ e ∷ []) es hold
    (subst (λ t. LegalFrom limits t es) (sym (state_from-push limits (opening limits apps) history e)) legal.2)
    (All-tail (λ (x : Entry). ends_hold app n x ≡ false) e es free)
    (hold-step limits apps app n history e hold legal.1 (All-head (λ (x : Entry). ends_hold app n x ≡ false) e es free) held))

-- An address. --

-- who is given an address has the handle
address-owns : (s : State) (app handle : ℕ) → table_cause s app handle (λ t. None) ≡ None → owns s.handles app handle ≡ true
address-owns s app handle free =
    let said = option_map_or (λ (t : Table). unregistered_cause t.registered None) (table_of s handle) None in
    by_owner (owns s.handles app handle) (by_live (is_live s.handles handle) (refused_if (not (owns s.handles app handle)) ErrNoAccess said) free)
  where
    by_live : (live : Bool) (others : Option TblStatus) → refused_if (not live) ErrInvalidHandle others ≡ None → others ≡ None
    by_live true others is = is
    by_live false others is = absurd (cc is)

    by_owner : (own : Bool) → refused_if (not own) ErrNoAccess (option_map_or (λ (t : Table). unregistered_cause t.registered None) (table_of s handle) None) ≡ None → own ≡ true
    by_owner true is = refl
    by_owner false is = absurd (cc is)

-- the handle holds the version that is told, with the value that the table had
address-holds : (limits : Limits) (apps : ℕ) (history : List Entry) (e : Entry) (handle version : ℕ) (told : Told) → e.call ≡ GetAddress handle → e.answer ≡ answers.Address told version →
    e.answer ≡ (step limits (state_after limits apps history) e.app e.call).0 →
    (t : Table) × (table_of (state_after limits apps history) handle ≡ Some t) × (t.version ≡ version) × (own_hold (state_after limits apps (history ++ e ∷ [])) e.app handle ≡ Some (held_as version t.value))
address-holds limits apps history e handle version told call answer answered =
    by_cause (cause limits s e.app (GetAddress handle)) refl (sym answer ∙ answered ∙ ap (λ c. (step limits s e.app c).0) call)
  where
    s : State
    s = state_after limits apps history

    Given : Type 0
    Given = (t : Table) × (table_of s handle ≡ Some t) × (t.version ≡ version) × (own_hold (state_after limits apps (history ++ e ∷ [])) e.app handle ≡ Some (held_as version t.value))

    given : (t : Table) → table_of s handle ≡ Some t → t.version ≡ version → cause limits s e.app (GetAddress handle) ≡ None → Given
    given t found present free = (
      t,
      found,
      present,
      ap (λ x. own_hold x e.app handle) (state_from-push limits (opening limits apps) history e)
          ∙ ap (λ c. own_hold ((step limits s e.app c).1) e.app handle) call
          ∙ own-still limits apps e.app handle history (GetAddress handle) (held_as t.version t.value) (address-owns s e.app handle free) (addresses_hold limits s e.app handle t found free)
          ∙ ap (λ v. Some (held_as v t.value)) present,
    )

    by_found : (o : Option Handle) (found : Option Table) → table_of s handle ≡ found → cause limits s e.app (GetAddress handle) ≡ None →
        answers.Address told version ≡ option_map_or (λ (h : Handle). option_map_or (λ (t : Table). answers.Address (told_of t h) t.version) found (answers.Refused ErrInvalidHandle)) o (answers.Refused ErrInvalidHandle) → Given
    by_found None found is free same = absurd (cc same)
    by_found (Some h) None is free same = absurd (cc same)
    by_found (Some h) (Some t) is free same =
        let versions : version ≡ t.version = cc same in
        given t is (sym versions) free

    by_cause : (why : Option TblStatus) → cause limits s e.app (GetAddress handle) ≡ why → answers.Address told version ≡ (outcome limits s e.app (GetAddress handle) why).0 → Given
    by_cause (Some status) is same = absurd (cc same)
    by_cause None is same = by_found (handle_at s.handles handle) (table_of s handle) refl is same

-- from an address on, until the handle lets go of it
pub tables_stay : (limits : Limits) (apps : ℕ) (history : List Entry) → IsLegal limits apps history → TablesStay limits apps history
tables_stay limits apps history legal front between rest e handle version told whole call answer free =
    let behind = legal-behind limits (opening limits apps) front (e ∷ (between ++ rest)) (subst (LegalFrom limits (opening limits apps)) whole legal) in
    let given = address-holds limits apps front e handle version told call answer behind.1 in
    let hold = held_as version given.0.value in
    let next = (step limits (state_after limits apps front) e.app e.call).1 in
    let follow : LegalFrom limits (state_after limits apps (front ++ e ∷ [])) between =
    subst (λ t. LegalFrom limits t between) (sym (state_from-push limits (opening limits apps) front e)) (legal-front limits next between rest behind.2) in
    let held : own_hold (state_after limits apps (front ++ e ∷ between)) e.app handle ≡ Some hold =
    subst (λ h. own_hold (state_after limits apps h) e.app handle ≡ Some hold) (append_assoc front (e ∷ []) between)
    (hold-between limits apps e.app handle (front ++ e ∷ []) between hold follow free given.3) in
    let now = found-unwritten (state_after limits apps (front ++ e ∷ between)) handle hold (lies-after limits apps (front ++ e ∷ between))
    (own_hold-some (state_after limits apps (front ++ e ∷ between)) e.app handle hold held).1 in
    record { before = given.0; given = given.1; present = given.2; held = held; after = now.0; left = now.1; unwritten = now.2 }
