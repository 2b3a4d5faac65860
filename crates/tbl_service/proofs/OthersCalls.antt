-- What others call meanwhile leaves an application as it stands, with what it may still add.
use Rattle.std.proofs.Common.{◌≡◌, ◌≢◌, ℕ, ◌≤◌, not, Bool, true, false, true≢false, ne_eqb, List, [], ◌∷◌, ◌++◌, length, map, IsTrue, refl, ap, sym, ◌∙◌, subst, arith}
use Rattle.std.specs.List.{All}
use Rattle.std.proofs.lemmas.List.Elements.{All-head, All-tail}
use Rattle.fsw_base.specs.Limits.{Limits}
use Rattle.lend_block.specs.declared.note.Note.{Note}
use Rattle.journal_store.specs.declared.allowance.Allowance.{Allowance}
use Rattle.journal_store.specs.Budgets.{allowance_of, allowances, charged, left_from}
use Rattle.tbl_words.specs.declared.history.Call.{Call}
use Rattle.tbl_words.specs.declared.history.Entry.{Entry}
use Rattle.tbl_words.specs.Entries.{call_bytes}
use Rattle.tbl_words.specs.Log.{charge_of, left_of}
use Rattle.tbl_words.specs.Tables.{State, opening, has_ended}
use Rattle.tbl_words.specs.Machine.{LegalFrom, state_from, step}
use Rattle.tbl_load.specs.Bags.{CalledByOthers}
use Rattle.tbl_load.specs.Core.{Core, MayCall, IsLegalCore, IsNoted, apps_of, state_of}
use Rattle.tbl_load.proofs.Journals.{length-left_of}
use Rattle.tbl_load.specs.Notes.{AreDue}
use Rattle.tbl_service.proofs.Allowances.{charged_other}
use Rattle.tbl_service.proofs.Standings.{callers_from_one, stays_apart, opened}

-- Two parts of a history. --

legal_back : (limits : Limits) (s : State) (es more : List Entry) → LegalFrom limits s (es ++ more) → LegalFrom limits (state_from limits s es) more
legal_back limits s [] more legal = legal
legal_back limits s (x ∷ es) more legal = legal_back limits ((step limits s x.app x.call).1) es more legal.2

state_further : (limits : Limits) (s : State) (es more : List Entry) → state_from limits s (es ++ more) ≡ state_from limits (state_from limits s es) more
state_further limits s [] more = refl
state_further limits s (x ∷ es) more = state_further limits ((step limits s x.app x.call).1) es more

left_further : (left : List Allowance) (es more : List Entry) → left_from left (map charge_of (es ++ more)) ≡ left_from (left_from left (map charge_of es)) (map charge_of more)
left_further left [] more = refl
left_further left (x ∷ es) more = left_further (charged left x.app (call_bytes x.call)) es more

-- Entries of others. --

left_alone : (left : List Allowance) (app : ℕ) (es : List Entry) → 1 ≤ app → All (λ (e : Entry). 1 ≤ e.app) es → All (λ (e : Entry). e.app ≢ app) es →
    allowance_of (left_from left (map charge_of es)) app ≡ allowance_of left app
left_alone left app [] first callers others = refl
left_alone left app (e ∷ es) first callers others =
    let from_one : Entry → Type 0 = λ x. 1 ≤ x.app in
    let other : Entry → Type 0 = λ x. x.app ≢ app in
    left_alone (charged left e.app (call_bytes e.call)) app es first (All-tail from_one e es callers) (All-tail other e es others)
    ∙ charged_other left e.app app (call_bytes e.call) (All-head from_one e es callers) first (ne_eqb e.app app (All-head other e es others))

still_open : (limits : Limits) (s : State) (app : ℕ) (es : List Entry) → 1 ≤ app → All (λ (e : Entry). 1 ≤ e.app) es → All (λ (e : Entry). e.app ≢ app) es → has_ended s app ≡ false →
    has_ended (state_from limits s es) app ≡ false
still_open limits s app [] first callers others standing = standing
still_open limits s app (e ∷ es) first callers others standing =
    let from_one : Entry → Type 0 = λ x. 1 ≤ x.app in
    let other : Entry → Type 0 = λ x. x.app ≢ app in
    still_open limits ((step limits s e.app e.call).1) app es first (All-tail from_one e es callers) (All-tail other e es others)
    (stays_apart limits s e.app app e.call (All-head from_one e es callers) first (ne_eqb e.app app (All-head other e es others)) standing)

-- an application with no entry hasn't ended
pub open_alone : (core : Core) (app : ℕ) → 1 ≤ app → app ≤ apps_of core → All (λ (e : Entry). 1 ≤ e.app) core.log.entries → All (λ (e : Entry). e.app ≢ app) core.log.entries →
    has_ended (state_of core) app ≡ false
open_alone core app first known callers others =
    still_open core.limits (opening core.limits (apps_of core)) app core.log.entries first callers others (opened core.limits (apps_of core) app first known)

-- Entries behind a core's history. --

-- if the notes of a history are due, so are those of its two parts
due-parts : (es more : List Entry) (notes others : List Note) → length notes ≡ length es → AreDue (es ++ more) (notes ++ others) → AreDue es notes × AreDue more others
due-parts [] more [] others even due = (tt, due)
due-parts [] more (n ∷ notes) others even due = absurd (omega (arith, even))
due-parts (e ∷ es) more [] others even due = absurd (omega (arith, even))
due-parts (e ∷ es) more (n ∷ notes) others even due = let rest = due-parts es more notes others (omega (arith, even)) due.1 in ((due.0, rest.0), rest.1)

-- the core with these entries behind its own, and a note beside each
abbrev with_more : Core → List Entry → List Note → Core
with_more core more fresh =
    record { limits = core.limits; log = record { budgets = core.log.budgets; entries = core.log.entries ++ more }; notes = core.notes ++ fresh }

-- if they are of others, only others called meanwhile
pub others_more : (core : Core) (more : List Entry) (fresh : List Note) (app : ℕ) → length core.notes ≡ length core.log.entries → IsLegalCore (with_more core more fresh) → IsNoted (with_more core more fresh) →
    All (λ (e : Entry). e.app ≢ app) more → CalledByOthers core (with_more core more fresh) app
others_more core more fresh app even legal noted others =
    let dues = due-parts core.log.entries more core.notes fresh even noted in
    record { entries = more; notes = fresh; by_others = others; grown = refl; legal = legal; before = dues.0; noted = dues.1 }

-- Calls of others. --

module _ (old new : Core) (app : ℕ) (first : 1 ≤ app) (others : CalledByOthers old new app) where
  abbrev s : State
  s = state_of old

  more_legal : LegalFrom old.limits s others.entries
  more_legal =
      legal_back old.limits (opening old.limits (apps_of old)) old.log.entries others.entries
      (subst (λ (core : Core). LegalFrom core.limits (opening core.limits (apps_of core)) core.log.entries) others.grown others.legal)

  pub left_meanwhile : allowance_of (left_of new.log) app ≡ allowance_of (left_of old.log) app
  left_meanwhile =
      ap (λ (core : Core). allowance_of (left_of core.log) app) others.grown
      ∙ ap (λ (l : List Allowance). allowance_of l app) (left_further (allowances old.log.budgets) old.log.entries others.entries)
      ∙ left_alone (left_of old.log) app others.entries first (callers_from_one old.limits s others.entries more_legal) others.by_others

  apps_meanwhile : apps_of new ≡ apps_of old
  apps_meanwhile = ap (λ (core : Core). apps_of core) others.grown

  open_meanwhile : has_ended s app ≡ false → has_ended (state_of new) app ≡ false
  open_meanwhile standing =
      ap (λ (core : Core). has_ended (state_of core) app) others.grown
      ∙ ap (λ (t : State). has_ended t app) (state_further old.limits (opening old.limits (apps_of old)) old.log.entries others.entries)
      ∙ still_open old.limits s app others.entries first (callers_from_one old.limits s others.entries more_legal) others.by_others standing

  -- what the application might call before, it may call still
  pub may_meanwhile : (call : Call) → MayCall old app call → MayCall new app call
  may_meanwhile call may = record {
    known = subst (λ (n : ℕ). app ≤ n) (sym apps_meanwhile) may.known;
    standing = ap (λ b. not b) (open_meanwhile (is_open (has_ended s app) may.standing));
    room = record {
      known = omega (arith, may.known, apps_meanwhile, length-left_of new.log);
      one_entry = subst (λ (a : Allowance). 1 ≤ a.entries) (sym left_meanwhile) may.room.one_entry;
      its_bytes = subst (λ (a : Allowance). call_bytes call ≤ a.bytes) (sym left_meanwhile) may.room.its_bytes;
    };
    within = may.within;
  }
    where
      is_open : (b : Bool) → IsTrue (not b) → b ≡ false
      is_open true never = absurd (true≢false (sym never))
      is_open false may = refl
