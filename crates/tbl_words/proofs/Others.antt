-- The handles of one application, each with what it holds: no call of another application changes them, nor what is told of them.
use Rattle.std.proofs.Common.{◌≡◌, ℕ, ◌&&◌, ◌||◌, ◌+◌, ◌<◌, not, suc, Bool, true, false, cond, true≢false, eqb, eqb-true, List, [], ◌∷◌, ◌++◌, map, filter, find, get_or, All, Option, Some, None, is_some, refl, ap, sym, ◌∙◌, subst, arith}
use Rattle.std.specs.List.{AllPairs}
use Rattle.std.specs.Option.{option_map, option_map_or, option_and_then}
use Rattle.std.proofs.lemmas.Bool.Decides.{nat_tests}
use Rattle.std.proofs.lemmas.List.Elements.{All-cons, All-head, All-tail}
use Rattle.fsw_base.specs.Limits.{Limits}
use Rattle.tbl_words.specs.declared.statuses.TblStatus.{TblStatus}
use Rattle.tbl_words.specs.declared.statuses.TblStatus.TheVariants.{ErrInvalidHandle, ErrNoAccess}
use Rattle.tbl_words.specs.declared.calls.TblAnswer.{TblAnswer}
use Rattle.tbl_words.specs.declared.calls.TblAnswer.TheVariants as answers
use Rattle.tbl_words.specs.declared.history.Call.{Call}
use Rattle.tbl_words.specs.declared.history.Call.TheVariants.{Register, Share, Unregister, Stage, Validate, Update, Abort, Load, GetAddress, ReleaseAddress, Status, End}
use Rattle.tbl_words.specs.declared.history.Entry.{Entry}
use Rattle.tbl_words.specs.Receipts.{Receipt, table_receipt, receipt_in}
use Rattle.tbl_words.specs.Holds.{hold_of}
use Rattle.tbl_words.specs.Tables.{Table, Staged, Handle, Hold, State, opening, owns, is_live, handle_at, table_of, table_named, with_handle, with_table, with_mark, all_marked}
use Rattle.tbl_words.specs.Machine.{cause, accept, outcome, step, state_after, access_cause, refused_if, with_new_handle, with_new_table, with_hold, without_hold, with_staged, with_validated, with_table_of, with_update, with_range}
use Rattle.tbl_words.proofs.Orders.{handles_rise}
use Rattle.tbl_words.proofs.Replay.{state_from-push}

-- handles stand in order of number
abbrev pub Rise : List Handle → Type 0
Rise handles = AllPairs (λ (earlier later : Handle). earlier.number < later.number) handles

-- the numbers of an application's handles, each with what it holds
abbrev pub owned : ℕ → List Handle → List (ℕ × Option Hold)
owned app [] = []
owned app (h ∷ handles) = cond {A = List (ℕ × Option Hold)} (eqb h.app app) ((h.number, h.hold) ∷ owned app handles) (owned app handles)

-- Numbers. --

pub rise-tail : (h : Handle) (handles : List Handle) → Rise (h ∷ handles) → Rise handles
rise-tail h handles rise = λ i j d lt within. rise (suc i) (suc j) d (omega (arith, lt)) (omega (arith, within))

pub rise-head : (h : Handle) (handles : List Handle) → Rise (h ∷ handles) → All (λ (k : Handle). h.number < k.number) handles
rise-head h handles rise = λ k d within. rise 0 (suc k) d (omega arith) (omega (arith, within))

unlike : (m n : ℕ) → m < n → eqb n m ≡ false
unlike m n less = grind (arith, nat_tests)

-- an application's handle of a number is behind a lesser one
number_above : (handles : List Handle) (m app n : ℕ) → All (λ (h : Handle). m < h.number) handles → owns handles app n ≡ true → m < n
number_above [] m app n above never = absurd (true≢false (sym never))
number_above (h ∷ handles) m app n above own =
    by_test (eqb h.number n) (eqb h.app app) refl (number_above handles m app n (All-tail (λ (k : Handle). m < k.number) h handles above)) own
  where
    by_test : (x y : Bool) → eqb h.number n ≡ x → (owns handles app n ≡ true → m < n) → ((x && y) || owns handles app n) ≡ true → m < n
    by_test true true is ih own = subst (λ k. m < k) (eqb-true h.number n is) (All-head (λ (k : Handle). m < k.number) h handles above)
    by_test true false is ih own = ih own
    by_test false y is ih own = ih own

-- who has the handle of a number is the only one
pub owner_alone : (handles : List Handle) (app n : ℕ) → Rise handles → owns handles app n ≡ true → All (λ (h : Handle). eqb h.number n ≡ true → h.app ≡ app) handles
owner_alone [] app n rise never = absurd (true≢false (sym never))
owner_alone (h ∷ handles) app n rise own =
    by_test (eqb h.number n) (eqb h.app app) refl refl (owner_alone handles app n (rise-tail h handles rise)) own
  where
    P : Handle → Type 0
    P k = eqb k.number n ≡ true → k.app ≡ app

    later : eqb h.number n ≡ true → All P handles
    later is = λ k d within same.
        absurd (true≢false (sym same ∙ unlike n (get_or handles k d).number (subst (λ m. m < (get_or handles k d).number) (eqb-true h.number n is) (rise-head h handles rise k d within))))

    elsewhere : eqb h.number n ≡ true → owns handles app n ≡ true → ⊥
    elsewhere is own = let above = number_above handles h.number app n (rise-head h handles rise) own in omega (arith, above, eqb-true h.number n is)

    by_test : (x y : Bool) → eqb h.number n ≡ x → eqb h.app app ≡ y → (owns handles app n ≡ true → All P handles) → ((x && y) || owns handles app n) ≡ true → All P (h ∷ handles)
    by_test true true number mine ih own = All-cons P h handles (λ same. eqb-true h.app app mine) (later number)
    by_test true false number mine ih own = absurd (elsewhere number own)
    by_test false y number mine ih own = All-cons P h handles (λ same. absurd (true≢false (sym same ∙ number))) (ih own)

-- Handles behind changes. --

owned-push : (app : ℕ) (handles : List Handle) (new : Handle) → eqb new.app app ≡ false → owned app (handles ++ new ∷ []) ≡ owned app handles
owned-push app [] new other = ap (λ b. cond {A = List (ℕ × Option Hold)} b ((new.number, new.hold) ∷ []) []) other
owned-push app (h ∷ handles) new other = ap (λ l. cond {A = List (ℕ × Option Hold)} (eqb h.app app) ((h.number, h.hold) ∷ l) l) (owned-push app handles new other)

-- a change keeps the application, and what its handles have
record IsStill (app : ℕ) (change : Handle → Handle) (h : Handle) : Type 0 where
  same_app : (change h).app ≡ h.app
  number : eqb h.app app ≡ true → (change h).number ≡ h.number
  hold : eqb h.app app ≡ true → (change h).hold ≡ h.hold

owned-map : (app : ℕ) (change : Handle → Handle) (handles : List Handle) → All (IsStill app change) handles → owned app (map change handles) ≡ owned app handles
owned-map app change [] all = refl
owned-map app change (h ∷ handles) all =
    let still = All-head (IsStill app change) h handles all in
    ap (λ n. cond {A = List (ℕ × Option Hold)} (eqb n app) (((change h).number, (change h).hold) ∷ owned app (map change handles)) (owned app (map change handles))) still.same_app
    ∙ ap (λ l. cond {A = List (ℕ × Option Hold)} (eqb h.app app) (((change h).number, (change h).hold) ∷ l) l) (owned-map app change handles (All-tail (IsStill app change) h handles all))
    ∙ by_app (eqb h.app app) refl still
  where
    by_app : (b : Bool) → eqb h.app app ≡ b → IsStill app change h →
        cond {A = List (ℕ × Option Hold)} b (((change h).number, (change h).hold) ∷ owned app handles) (owned app handles) ≡ cond {A = List (ℕ × Option Hold)} b ((h.number, h.hold) ∷ owned app handles) (owned app handles)
    by_app true is still = ap (λ n. (n, (change h).hold) ∷ owned app handles) (still.number is) ∙ ap (λ o. (h.number, o) ∷ owned app handles) (still.hold is)
    by_app false is still = refl

owned-marked : (app table : ℕ) (handles : List Handle) → owned app (all_marked table handles) ≡ owned app handles
owned-marked app table handles = owned-map app (λ h. cond {A = Handle} (eqb h.table table) (with_mark h) h) handles (λ k d within. still (get_or handles k d))
  where
    by_table : (h : Handle) (b : Bool) → ((cond {A = Handle} b (with_mark h) h).app ≡ h.app) × ((cond {A = Handle} b (with_mark h) h).number ≡ h.number) × ((cond {A = Handle} b (with_mark h) h).hold ≡ h.hold)
    by_table h true = (refl, refl, refl)
    by_table h false = (refl, refl, refl)

    still : (h : Handle) → IsStill app (λ (k : Handle). cond {A = Handle} (eqb k.table table) (with_mark k) k) h
    still h = let so = by_table h (eqb h.table table) in record { same_app = so.0; number = λ own. so.1; hold = λ own. so.2 }

-- the handle of a number that is another's
owned-changed : (app other n : ℕ) (change : Handle → Handle) (handles : List Handle) → ((h : Handle) → (change h).app ≡ h.app) → All (λ (h : Handle). eqb h.number n ≡ true → h.app ≡ app) handles → eqb app other ≡ false →
    owned other (with_handle change n handles) ≡ owned other handles
owned-changed app other n change handles same alone apart = owned-map other (λ h. cond {A = Handle} (eqb h.number n) (change h) h) handles (λ k d within. still (get_or handles k d) (alone k d within))
  where
    not_his : (h : Handle) → h.app ≡ app → eqb h.app other ≡ true → ⊥
    not_his h is own = true≢false (sym own ∙ ap (λ m. eqb m other) is ∙ apart)

    by_number : (h : Handle) (b : Bool) → (b ≡ true → h.app ≡ app) →
        ((cond {A = Handle} b (change h) h).app ≡ h.app) × (eqb h.app other ≡ true → (cond {A = Handle} b (change h) h).number ≡ h.number) × (eqb h.app other ≡ true → (cond {A = Handle} b (change h) h).hold ≡ h.hold)
    by_number h true his = (same h, λ own. absurd (not_his h (his refl) own), λ own. absurd (not_his h (his refl) own))
    by_number h false his = (refl, λ own. refl, λ own. refl)

    still : (h : Handle) → (eqb h.number n ≡ true → h.app ≡ app) → IsStill other (λ (k : Handle). cond {A = Handle} (eqb k.number n) (change k) k) h
    still h his = let so = by_number h (eqb h.number n) his in record { same_app = so.0; number = so.1; hold = so.2 }

-- handles of others that leave
owned-left : (app : ℕ) (gone : Handle → Bool) (handles : List Handle) → All (λ (h : Handle). gone h ≡ true → eqb h.app app ≡ false) handles →
    owned app (filter (λ h. not (gone h)) handles) ≡ owned app handles
owned-left app gone [] all = refl
owned-left app gone (h ∷ handles) all =
    by_gone (gone h) (All-head (λ (k : Handle). gone k ≡ true → eqb k.app app ≡ false) h handles all) (owned-left app gone handles (All-tail (λ (k : Handle). gone k ≡ true → eqb k.app app ≡ false) h handles all))
  where
    left : List Handle
    left = filter (λ (k : Handle). not (gone k)) handles

    by_gone : (b : Bool) → (b ≡ true → eqb h.app app ≡ false) → owned app left ≡ owned app handles →
        owned app (cond {A = List Handle} (not b) (h ∷ left) left) ≡ cond {A = List (ℕ × Option Hold)} (eqb h.app app) ((h.number, h.hold) ∷ owned app handles) (owned app handles)
    by_gone true his ih = ih ∙ sym (ap (λ b. cond {A = List (ℕ × Option Hold)} b ((h.number, h.hold) ∷ owned app handles) (owned app handles)) (his refl))
    by_gone false his ih = ap (λ l. cond {A = List (ℕ × Option Hold)} (eqb h.app app) ((h.number, h.hold) ∷ l) l) ih

-- A step. --

-- a call by a handle that isn't refused is its owner's
access_owns : (s : State) (app handle : ℕ) (others : Option TblStatus) → access_cause s app handle others ≡ None → owns s.handles app handle ≡ true
access_owns s app handle others free = by_tests (is_live s.handles handle) (owns s.handles app handle) free
  where
    by_tests : (live own : Bool) → refused_if (not live) ErrInvalidHandle (refused_if (not own) ErrNoAccess others) ≡ None → own ≡ true
    by_tests true true free = refl
    by_tests true false free = absurd (true≢false (ap is_some free))
    by_tests false own free = absurd (true≢false (ap is_some free))

module _ (limits : Limits) (s : State) (app other : ℕ) (rise : Rise s.handles) (apart : eqb app other ≡ false) where
  alone : (handle : ℕ) (others : Option TblStatus) → access_cause s app handle others ≡ None → All (λ (h : Handle). eqb h.number handle ≡ true → h.app ≡ app) s.handles
  alone handle others free = owner_alone s.handles app handle rise (access_owns s app handle others free)

  his : (h : Handle) → h.app ≡ app → eqb h.app other ≡ false
  his h is = ap (λ n. eqb n other) is ∙ apart

  tables_alone : (handle : ℕ) (change : Table → Table) → owned other (with_table_of s handle change).handles ≡ owned other s.handles
  tables_alone handle change = by_table (table_of s handle)
    where
      by_table : (found : Option Table) → owned other (option_map_or (λ (t : Table). record s { tables = with_table change t.number s.tables }) found s).handles ≡ owned other s.handles
      by_table None = refl
      by_table (Some t) = refl

  accept_alone : (call : Call) → cause limits s app call ≡ None → owned other ((accept limits s app call).1).handles ≡ owned other s.handles
  accept_alone (Register name size option rules) free = by_name (table_named s.tables name)
    where
      by_name : (found : Option Table) →
          owned other ((option_map_or {U = TblAnswer × State} (λ (t : Table). (answers.Duplicate t.number, s)) found (answers.Number (s.handles_made + 1), with_new_table limits s app name size option rules)).1).handles ≡ owned other s.handles
      by_name None = owned-push other s.handles _ apart
      by_name (Some t) = refl
  accept_alone (Share name) free = by_name (table_named s.tables name)
    where
      by_name : (found : Option Table) → owned other (option_map_or (λ (t : Table). with_new_handle s app t.number t.loaded) found s).handles ≡ owned other s.handles
      by_name None = refl
      by_name (Some t) = owned-push other s.handles _ apart
  accept_alone (Unregister handle) free =
      owned-left other (λ h. eqb h.number handle) s.handles (λ k d within is. his (get_or s.handles k d) (alone handle None free k d within is))
  accept_alone (Stage handle offset bytes) free = tables_alone handle (λ t. with_staged (with_range t.value offset bytes) false t)
  accept_alone (Validate handle) free = tables_alone handle with_validated
  accept_alone (Update handle) free = by_table (table_of s handle)
    where
      by_staged : (t : Table) (staged : Option Staged) → owned other (option_map_or (λ (x : Staged). with_update s x.value t) staged s).handles ≡ owned other s.handles
      by_staged t None = refl
      by_staged t (Some x) = owned-marked other t.number s.handles

      by_table : (found : Option Table) → owned other (option_map_or (λ (t : Table). option_map_or (λ (x : Staged). with_update s x.value t) t.staged s) found s).handles ≡ owned other s.handles
      by_table None = refl
      by_table (Some t) = by_staged t t.staged
  accept_alone (Abort handle) free = tables_alone handle (λ t. record t { staged = None })
  accept_alone (Load handle offset bytes) free = by_table (table_of s handle)
    where
      by_table : (found : Option Table) → owned other (option_map_or (λ (t : Table). with_update s (with_range t.value offset bytes) t) found s).handles ≡ owned other s.handles
      by_table None = refl
      by_table (Some t) = owned-marked other t.number s.handles
  accept_alone (GetAddress handle) free = by_table (table_of s handle)
    where
      by_table : (found : Option Table) → owned other (option_map_or (λ (t : Table). record s { handles = with_handle (with_hold t.version t.value) handle s.handles }) found s).handles ≡ owned other s.handles
      by_table None = refl
      by_table (Some t) = owned-changed app other handle (with_hold t.version t.value) s.handles (λ h. refl) (alone handle _ free) apart
  accept_alone (ReleaseAddress handle) free = owned-changed app other handle without_hold s.handles (λ h. refl) (alone handle None free) apart
  accept_alone (Status handle) free = refl
  accept_alone End free = owned-left other (λ h. eqb h.app app) s.handles (λ k d within is. his (get_or s.handles k d) (eqb-true (get_or s.handles k d).app app is))

  -- no call of an application changes another's handles
  pub step_alone : (call : Call) → owned other ((step limits s app call).1).handles ≡ owned other s.handles
  step_alone call = by_cause (cause limits s app call) refl
    where
      by_cause : (why : Option TblStatus) → cause limits s app call ≡ why → owned other ((outcome limits s app call why).1).handles ≡ owned other s.handles
      by_cause None free = accept_alone call free
      by_cause (Some status) why = refl

-- What an application's handle holds. --

-- what the live handle of this number holds, if it is the application's
abbrev pub hold_owned : List Handle → ℕ → ℕ → Option Hold
hold_owned handles app n = cond {A = Option Hold} (owns handles app n) (hold_of handles n) None

-- it stands among the application's handles
pub hold_in-owned : (handles : List Handle) (app n : ℕ) → Rise handles →
    hold_owned handles app n ≡ option_and_then (λ (k : ℕ × Option Hold). k.1) (find (λ (k : ℕ × Option Hold). eqb k.0 n) (owned app handles))
hold_in-owned [] app n rise = refl
hold_in-owned (h ∷ handles) app n rise = by_number (eqb h.number n) refl (hold_in-owned handles app n (rise-tail h handles rise))
  where
    found : List (ℕ × Option Hold) → Option Hold
    found rows = option_and_then (λ (k : ℕ × Option Hold). k.1) (find (λ (k : ℕ × Option Hold). eqb k.0 n) rows)

    row : Bool → List (ℕ × Option Hold)
    row mine = cond {A = List (ℕ × Option Hold)} mine ((h.number, h.hold) ∷ owned app handles) (owned app handles)

    none_above : (b : Bool) → owns handles app n ≡ b → eqb h.number n ≡ true → b ≡ false
    none_above false is same = refl
    none_above true is same = let above = number_above handles h.number app n (rise-head h handles rise) is in absurd (omega (arith, above, eqb-true h.number n same))

    own : (mine : Bool) → eqb h.number n ≡ true → hold_owned handles app n ≡ found (owned app handles) →
        cond {A = Option Hold} (mine || owns handles app n) h.hold None ≡ found (row mine)
    own true same ih = sym (ap (λ b. option_and_then (λ (k : ℕ × Option Hold). k.1) (cond {A = Option (ℕ × Option Hold)} b (Some (h.number, h.hold)) (find (λ (k : ℕ × Option Hold). eqb k.0 n) (owned app handles)))) same)
    own false same ih =
        let not_there : owns handles app n ≡ false = none_above (owns handles app n) refl same in
        ap (λ b. cond {A = Option Hold} b h.hold None) not_there ∙ sym (ap (λ b. cond {A = Option Hold} b (hold_of handles n) None) not_there) ∙ ih

    skipped : (mine : Bool) → eqb h.number n ≡ false → found (row mine) ≡ found (owned app handles)
    skipped true other = ap (λ b. option_and_then (λ (k : ℕ × Option Hold). k.1) (cond {A = Option (ℕ × Option Hold)} b (Some (h.number, h.hold)) (find (λ (k : ℕ × Option Hold). eqb k.0 n) (owned app handles)))) other
    skipped false other = refl

    by_number : (b : Bool) → eqb h.number n ≡ b → hold_owned handles app n ≡ found (owned app handles) →
        cond {A = Option Hold} ((b && eqb h.app app) || owns handles app n) (option_and_then (λ (k : Handle). k.hold) (cond {A = Option Handle} b (Some h) (handle_at handles n))) None ≡ found (row (eqb h.app app))
    by_number true same ih = own (eqb h.app app) same ih
    by_number false other ih = ih ∙ sym (skipped (eqb h.app app) other)

-- the receipt of what a handle holds is that of this hold
pub receipt-owned : (s : State) (app n : ℕ) → receipt_in s app n ≡ option_map (λ held. table_receipt n held.version held.value) (hold_owned s.handles app n)
receipt-owned s app n = by_tests (owns s.handles app n) (handle_at s.handles n)
  where
    by_tests : (own : Bool) (h : Option Handle) →
        cond {A = Option Receipt} own (option_and_then (λ (x : Handle). option_map (λ (held : Hold). table_receipt n held.version held.value) x.hold) h) None
        ≡ option_map (λ (held : Hold). table_receipt n held.version held.value) (cond {A = Option Hold} own (option_and_then (λ (x : Handle). x.hold) h) None)
    by_tests false h = refl
    by_tests true None = refl
    by_tests true (Some h) = refl

-- no call of an application changes what another's handle holds
pub hold_alone : (limits : Limits) (apps app other n : ℕ) (history : List Entry) (call : Call) → eqb app other ≡ false →
    hold_owned ((step limits (state_after limits apps history) app call).1).handles other n ≡ hold_owned (state_after limits apps history).handles other n
hold_alone limits apps app other n history call apart =
    let s = state_after limits apps history in
    let next = (step limits s app call).1 in
    let e : Entry = record { app = app; call = call; answer = answers.Done } in
    let rise : Rise s.handles = handles_rise limits apps history in
    let rising : Rise next.handles = subst (λ (x : State). Rise x.handles) (state_from-push limits (opening limits apps) history e) (handles_rise limits apps (history ++ e ∷ [])) in
    hold_in-owned next.handles other n rising
    ∙ ap (λ rows. option_and_then (λ (k : ℕ × Option Hold). k.1) (find (λ (k : ℕ × Option Hold). eqb k.0 n) rows)) (step_alone limits s app other rise apart call)
    ∙ sym (hold_in-owned s.handles other n rise)

-- and so not what is told of it
pub receipt_alone : (limits : Limits) (apps app other n : ℕ) (history : List Entry) (call : Call) → eqb app other ≡ false →
    receipt_in ((step limits (state_after limits apps history) app call).1) other n ≡ receipt_in (state_after limits apps history) other n
receipt_alone limits apps app other n history call apart =
    receipt-owned ((step limits (state_after limits apps history) app call).1) other n
    ∙ ap (option_map (λ (held : Hold). table_receipt n held.version held.value)) (hold_alone limits apps app other n history call apart)
    ∙ sym (receipt-owned (state_after limits apps history) other n)
