-- What the calls leave, each by what the core tells of bags.
use Rattle.std.proofs.Common.{◌≡◌, ◌≢◌, ℕ, ◌&&◌, Bool, true, false, cond, true≢false, eqb, eqb-true, List, [], ◌∷◌, ◌++◌, Option, Some, None, is_some, Result, Ok, Err, refl, ap, sym, ◌∙◌, subst, arith}
use Rattle.std.specs.Option.{IsSome, option_and_then}
use Rattle.std.specs.Result.{OnOk, OnErr}
use Rattle.std.proofs.lemmas.Bool.Decides.{nat_tests}
use Rattle.lend_block.specs.Loan.{LentBytes}
use Rattle.lend_block.specs.declared.note.Note.{Note}
use Rattle.lend_block.specs.declared.note.Note.TheVariants.{Nothing}
use Rattle.tbl_words.specs.declared.calls.Address.{Address}
use Rattle.tbl_words.specs.declared.calls.Registered.{Registered}
use Rattle.tbl_words.specs.declared.calls.Registered.TheVariants.{New, Duplicate}
use Rattle.tbl_words.specs.declared.calls.TblAnswer.{TblAnswer}
use Rattle.tbl_words.specs.declared.calls.TblAnswer.TheVariants as answers
use Rattle.tbl_words.specs.declared.calls.TblState.{TblState}
use Rattle.tbl_words.specs.declared.history.Call.{Call}
use Rattle.tbl_words.specs.declared.history.Call.TheVariants.{Register, GetAddress}
use Rattle.tbl_rules.specs.declared.rules.Rule.{Rule}
use Rattle.tbl_words.specs.declared.statuses.TblStatus.{TblStatus}
use Rattle.tbl_words.specs.declared.uses.TblUse.{TblUse}
use Rattle.tbl_words.specs.Holds.{hold_of}
use Rattle.tbl_words.specs.Log.{with_entry}
use Rattle.tbl_words.specs.Tables.{Handle, Hold, handle_at}
use Rattle.tbl_words.specs.Uses.{greater_of, use_of}
use Rattle.table_blocks.specs.Held.{HeldViews, held_at}
use Rattle.table_core.specs.Answers.{registered, shared, figures_told, addressed, done}
use Rattle.table_core.specs.Core.{Plain, Acts, Holds, changes_bag, loan_of, view_due}
use Rattle.tbl_load.specs.declared.tables.TblCore.TheInside.{Inside}
use Rattle.tbl_load.specs.Inside.{Stands}
use Rattle.tbl_load.specs.Notes.{NotedLog, IsDue, AreDue, gives_for, is_address, loan_in, note_due, note_seen}
use Rattle.tbl_load.proofs.CoreBags.{rise_in}
use Rattle.tbl_load.proofs.Dues.{due_by, dues_same, found_number, kept_from, viewed}
use Rattle.tbl_load.proofs.EntryLemma.{Made}

-- Calls that give no address note nothing. --

pub registered-nothing : (told : Result Registered TblStatus) → note_due (registered told) 0 ≡ Nothing
registered-nothing (Ok (New n)) = refl
registered-nothing (Ok (Duplicate n)) = refl
registered-nothing (Err status) = refl

pub shared-nothing : (told : Result ℕ TblStatus) → note_due (shared told) 0 ≡ Nothing
shared-nothing (Ok n) = refl
shared-nothing (Err status) = refl

pub figures-nothing : (told : Result TblState TblStatus) → note_due (figures_told told) 0 ≡ Nothing
figures-nothing (Ok figures) = refl
figures-nothing (Err status) = refl

pub done-nothing : (told : Result (Unit {0}) TblStatus) → note_due (done told) 0 ≡ Nothing
done-nothing (Ok nothing) = refl
done-nothing (Err status) = refl

-- so nothing is due to them
pub nothing_due : (told answer : TblAnswer) → told ≡ answer → note_due answer 0 ≡ Nothing → IsDue told Nothing
nothing_due told answer is nothing = (0, sym nothing ∙ sym (ap (λ x. note_due x 0) is))

itself : (n : ℕ) → eqb n n ≡ true
itself n = grind (arith, nat_tests)

apart : (m n : ℕ) → eqb m n ≡ false → m ≢ n
apart m n is same = true≢false (sym (itself m) ∙ ap (eqb m) same ∙ is)

module _ (a : Inside) (core : Plain) (next : NotedLog) (app : ℕ) (call : Call) (answer told : TblAnswer) (now : TblUse) (stands : Stands a) (acts : Acts a.core core app call answer)
    (as_told : told ≡ answer) (in_use : now ≡ use_of core.limits core.state) (noted : AreDue next.log.entries next.notes) where
  -- what the pushed entry is
  abbrev Pushed : Note → Type 0
  Pushed note = next ≡ record { log = with_entry a.noted.log (record { app = app; call = call; answer = told }); notes = a.noted.notes ++ note ∷ []; peak = greater_of a.noted.peak now }

  entered : (note due : Note) → Pushed note → note ≡ due →
      next ≡ record { log = with_entry a.noted.log (record { app = app; call = call; answer = answer }); notes = a.noted.notes ++ due ∷ []; peak = greater_of a.noted.peak (use_of core.limits core.state) }
  entered note due pushed is =
      pushed
      ∙ ap (λ t. record { log = with_entry a.noted.log (record { app = app; call = call; answer = t }); notes = a.noted.notes ++ note ∷ []; peak = greater_of a.noted.peak now }) as_told
      ∙ ap (λ n. record { log = with_entry a.noted.log (record { app = app; call = call; answer = answer }); notes = a.noted.notes ++ n ∷ []; peak = greater_of a.noted.peak now }) is
      ∙ ap (λ u. record { log = with_entry a.noted.log (record { app = app; call = call; answer = answer }); notes = a.noted.notes ++ due ∷ []; peak = greater_of a.noted.peak u }) in_use

  -- what holds of each handle that holds something
  by_handle : (n : ℕ) (P : Type 0) → ((h : Handle) → handle_at core.state.handles n ≡ Some h → is_some h.hold ≡ true → P) → is_some (hold_of core.state.handles n) ≡ true → P
  by_handle n P each some = by_found (handle_at core.state.handles n) refl some
    where
      by_found : (o : Option Handle) → handle_at core.state.handles n ≡ o → is_some (option_and_then (λ (h : Handle). h.hold) o) ≡ true → P
      by_found None at never = absurd (true≢false (sym never))
      by_found (Some h) at some = each h at some

  -- A call that changes no bag. --

  pub made_quiet : Pushed Nothing → note_due answer 0 ≡ Nothing → ((n : ℕ) → gives_for n call answer ≡ false) → changes_bag call ≡ false → Made a core next app call answer
  made_quiet pushed nothing none quiet = record {
    acts = acts;
    loan = 0;
    pushed = entered Nothing (note_due answer 0) pushed (sym nothing);
    due = noted;
    given = λ n gives. absurd (true≢false (sym gives ∙ none n));
    kept = λ n not_given. by_handle n _ (λ h at some.
        kept_from a.core core n h at some (dues_same a.core core h.app (rise_in a stands) (λ bag. acts.bags h.app bag (λ changes. absurd (true≢false (sym changes ∙ quiet)))) n));
  }

  -- One that changes the caller's own bag. --

  module _ (bag new : HeldViews) (had : Holds a.core app bag) (has : Holds core app new)
      (stays : (n : ℕ) → gives_for n call answer ≡ false → is_some (held_at new n) ≡ true → held_at new n ≡ held_at bag n) where
    kept_own : (n : ℕ) → gives_for n call answer ≡ false → is_some (hold_of core.state.handles n) ≡ true → (is_some (hold_of a.core.state.handles n) ≡ true) × (loan_of core.lent n ≡ loan_of a.core.lent n)
    kept_own n none = by_handle n _ (λ h at some. kept_from a.core core n h at some (by_app h (eqb h.app app) refl at some))
      where
        shown : (o : Option Hold) (loan : ℕ) → is_some o ≡ true → is_some (viewed loan o) ≡ true
        shown None loan some = some
        shown (Some hold) loan some = refl

        here : (h : Handle) → h.app ≡ app → handle_at core.state.handles n ≡ Some h → is_some h.hold ≡ true → is_some (held_at new n) ≡ true
        here h mine at some =
            ap (λ (o : Option LentBytes). is_some o) (has.seen n ∙ ap (due_by (loan_of core.lent) app) at
            ∙ ap (λ b. cond {A = Option LentBytes} b (viewed (loan_of core.lent h.number) h.hold) None) (ap (λ m. eqb m app) mine ∙ itself app))
            ∙ shown h.hold (loan_of core.lent h.number) some

        by_app : (h : Handle) (b : Bool) → eqb h.app app ≡ b → handle_at core.state.handles n ≡ Some h → is_some h.hold ≡ true → view_due core h.app n ≡ view_due a.core h.app n
        by_app h true is at some =
            let mine = eqb-true h.app app is in
            subst (λ m. view_due core m n ≡ view_due a.core m n) (sym mine) (sym (has.seen n) ∙ stays n none (here h mine at some) ∙ had.seen n)
        by_app h false is at some = dues_same a.core core h.app (rise_in a stands) (λ one. acts.bags h.app one (λ changes. apart h.app app is)) n

    -- and gives none
    pub made_taking : Pushed Nothing → note_due answer 0 ≡ Nothing → ((n : ℕ) → gives_for n call answer ≡ false) → Made a core next app call answer
    made_taking pushed nothing none = record {
      acts = acts;
      loan = 0;
      pushed = entered Nothing (note_due answer 0) pushed (sym nothing);
      due = noted;
      given = λ n gives. absurd (true≢false (sym gives ∙ none n));
      kept = kept_own;
    }

    -- or an address for a handle
    pub made_giving : (handle : ℕ) (note : Note) → Pushed note → note ≡ note_due answer (loan_of core.lent handle) →
        ((n : ℕ) → gives_for n call answer ≡ true → (handle ≡ n) × (is_address answer ≡ true)) → Made a core next app call answer
    made_giving handle note pushed due for_it = record {
      acts = acts;
      loan = loan_of core.lent handle;
      pushed = entered note (note_due answer (loan_of core.lent handle)) pushed due;
      due = noted;
      given = λ n gives. let its = for_it n gives in (ap (loan_of core.lent) (sym its.0), named answer (loan_of core.lent handle) its.1);
      kept = kept_own;
    }
      where
        named : (x : TblAnswer) (loan : ℕ) → is_address x ≡ true → loan_in (note_due x loan) ≡ loan
        named (answers.Address t version) loan is = refl
        named answers.Done loan is = absurd (true≢false (sym is))
        named (answers.Number n) loan is = absurd (true≢false (sym is))
        named (answers.Duplicate n) loan is = absurd (true≢false (sym is))
        named (answers.State figures) loan is = absurd (true≢false (sym is))
        named (answers.Refused status) loan is = absurd (true≢false (sym is))

-- the rules of an entered registration are the call's
pub entered_as : (noted next : NotedLog) (app : ℕ) (kept rules : List Rule) (name : List ℕ) (size option : ℕ) (told : TblAnswer) (now : TblUse) →
    next ≡ record { log = with_entry noted.log (record { app = app; call = Register name size option kept; answer = told }); notes = noted.notes ++ Nothing ∷ []; peak = greater_of noted.peak now } → kept ≡ rules →
    next ≡ record { log = with_entry noted.log (record { app = app; call = Register name size option rules; answer = told }); notes = noted.notes ++ Nothing ∷ []; peak = greater_of noted.peak now }
entered_as noted next app kept rules name size option told now pushed same =
    pushed ∙ ap (λ rs. record { log = with_entry noted.log (record { app = app; call = Register name size option rs; answer = told }); notes = noted.notes ++ Nothing ∷ []; peak = greater_of noted.peak now }) same

-- a call that changes no bag keeps all
pub quiet_bags : (old new : Plain) (app : ℕ) (call : Call) (answer : TblAnswer) → Acts old new app call answer → changes_bag call ≡ false → (other : ℕ) (bag : HeldViews) → Holds old other bag → Holds new other bag
quiet_bags old new app call answer acts quiet other bag = acts.bags other bag (λ changes. absurd (true≢false (sym changes ∙ quiet)))

-- By each call. --

-- the view that the bag has for a handle is lent by what the handle holds
seen_loan : (core : Plain) (app handle : ℕ) (bag : HeldViews) (view : LentBytes) → Holds core app bag → held_at bag handle ≡ Some view → view.loan ≡ loan_of core.lent handle
seen_loan core app handle bag view has is = by_found (handle_at core.state.handles handle) refl (sym is ∙ has.seen handle)
  where
    loan_at : Option LentBytes → ℕ
    loan_at None = 0
    loan_at (Some v) = v.loan

    by_found : (o : Option Handle) → handle_at core.state.handles handle ≡ o → Some view ≡ due_by (loan_of core.lent) app o → view.loan ≡ loan_of core.lent handle
    by_found None at never = absurd (cc (never))
    by_found (Some h) at it = by_tests (eqb h.app app) h.hold it
      where
        by_tests : (b : Bool) (o : Option Hold) → Some view ≡ cond {A = Option LentBytes} b (viewed (loan_of core.lent h.number) o) None → view.loan ≡ loan_of core.lent handle
        by_tests true None never = absurd (cc (never))
        by_tests true (Some hold) it = ap loan_at it ∙ ap (loan_of core.lent) (found_number core.state.handles handle h at)
        by_tests false o never = absurd (cc (never))

-- so the note is the one that is due
pub address_due : (core : Plain) (app handle : ℕ) (bag : HeldViews) (told : Result Address TblStatus) → Holds core app bag → OnOk told (IsSome (held_at bag handle)) →
    note_seen (addressed told) (held_at bag handle) ≡ note_due (addressed told) (loan_of core.lent handle)
address_due core app handle bag (Err status) has given = refl
address_due core app handle bag (Ok address) has given = by_view (held_at bag handle) refl given
  where
    by_view : (o : Option LentBytes) → held_at bag handle ≡ o → IsSome o → note_seen (answers.Address address.told address.version) o ≡ note_due (answers.Address address.told address.version) (loan_of core.lent handle)
    by_view None is never = absurd (cc (never))
    by_view (Some view) is some = ap (note_due (answers.Address address.told address.version)) (seen_loan core app handle bag view has is)

pub address_for : (told : Result Address TblStatus) (handle n : ℕ) → gives_for n (GetAddress handle) (addressed told) ≡ true → (handle ≡ n) × (is_address (addressed told) ≡ true)
address_for told handle n gives = by_tests (eqb handle n) (is_address (addressed told)) refl gives
  where
    by_tests : (x y : Bool) → eqb handle n ≡ x → (x && y) ≡ true → (handle ≡ n) × (y ≡ true)
    by_tests true y is both = (eqb-true handle n is, both)
    by_tests false y is both = absurd (true≢false (sym both))

-- if an address is given the views for other handles stay, and if none is, all do
pub address_stays : (bag new : HeldViews) (told : Result Address TblStatus) (handle : ℕ) → ((n : ℕ) → eqb handle n ≡ false → held_at new n ≡ held_at bag n) → OnErr told (new ≡ bag) →
    (n : ℕ) → gives_for n (GetAddress handle) (addressed told) ≡ false → is_some (held_at new n) ≡ true → held_at new n ≡ held_at bag n
address_stays bag new (Err status) handle others unchanged n none some = ap (λ (h : HeldViews). held_at h n) unchanged
address_stays bag new (Ok address) handle others unchanged n none some = by_test (eqb handle n) refl none
  where
    by_test : (b : Bool) → eqb handle n ≡ b → (b && true) ≡ false → held_at new n ≡ held_at bag n
    by_test true is none = absurd (true≢false none)
    by_test false is none = others n is

-- if a view is taken those for other handles stay
pub taken_stays : (bag new : HeldViews) (told : Result (Unit {0}) TblStatus) (handle : ℕ) → ((n : ℕ) → eqb handle n ≡ false → held_at new n ≡ held_at bag n) → OnOk told (held_at new handle ≡ None) → OnErr told (new ≡ bag) →
    (n : ℕ) → is_some (held_at new n) ≡ true → held_at new n ≡ held_at bag n
taken_stays bag new (Err status) handle others gone unchanged n some = ap (λ (h : HeldViews). held_at h n) unchanged
taken_stays bag new (Ok nothing) handle others gone unchanged n some = by_test (eqb handle n) refl
  where
    by_test : (b : Bool) → eqb handle n ≡ b → held_at new n ≡ held_at bag n
    by_test true is = absurd (true≢false (sym some ∙ ap (λ (o : Option LentBytes). is_some o) (ap (held_at new) (sym (eqb-true handle n is)) ∙ gone)))
    by_test false is = others n is

-- an empty bag has no view
pub none_stays : (bag new : HeldViews) → new.views ≡ [] → (n : ℕ) → is_some (held_at new n) ≡ true → held_at new n ≡ held_at bag n
none_stays bag new empty n some =
    absurd (true≢false (sym some ∙ ap (λ (views : List (ℕ × LentBytes)). is_some (held_at (record new { views = views }) n)) empty))
