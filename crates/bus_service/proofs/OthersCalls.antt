-- What others call meanwhile leaves an application as it stands, with what it may still add.
use Rattle.std.proofs.Common.{◌≡◌, ◌≢◌, ℕ, ◌≤◌, ◌∷◌, ◌++◌, [], length, IsTrue, refl, ap, sym, ◌∙◌, subst, arith, List}
use Rattle.std.specs.List.{All}
use Rattle.lend_block.specs.declared.note.Note.{Note}
use Rattle.journal_store.specs.declared.allowance.Allowance.{Allowance}
use Rattle.journal_store.specs.Budgets.{allowance_of, allowances}
use Rattle.bus_words.specs.declared.history.Call.{Call}
use Rattle.bus_words.specs.declared.history.Entry.{Entry}
use Rattle.bus_words.specs.Bus.{State, Standing, opening, standing_of}
use Rattle.bus_words.specs.Entries.{call_bytes}
use Rattle.bus_words.specs.Log.{left_of}
use Rattle.bus_words.specs.Machine.{LegalFrom, may_call}
use Rattle.bus_words.proofs.Journals.{length-left_of}
use Rattle.bus_words.proofs.OwnEntries.{callers_from_one, legal_back, left_alone, left_further, standing_alone, state_further}
use Rattle.sb_calls.specs.Bags.{CalledByOthers}
use Rattle.sb_calls.specs.Core.{Core, MayCall, IsLegalCore, IsNoted, apps_of, state_of}
use Rattle.sb_calls.specs.Notes.{AreDue}

-- Entries behind a core's history. --

-- if the notes of a history are due, so are those of its two parts
due-parts : (es more : List Entry) (notes others : List Note) → length notes ≡ length es → AreDue (es ++ more) (notes ++ others) → AreDue es notes × AreDue more others
due-parts [] more [] others even due = (tt, due)
due-parts [] more (n ∷ notes) others even due = absurd (omega (arith, even))
due-parts (e ∷ es) more [] others even due = absurd (omega (arith, even))
due-parts (e ∷ es) more (n ∷ notes) others even due = let rest = due-parts es more notes others (omega (arith, even)) due.1 in ((due.0, rest.0), rest.1)

-- the core with these entries behind its own, and a note beside each
abbrev with_more : Core → List Entry → List Note → Core
with_more core more fresh =
    record { limits = core.limits; log = record { budgets = core.log.budgets; entries = core.log.entries ++ more }; notes = core.notes ++ fresh }

-- if they are of others, only others called meanwhile
pub others_more : (core : Core) (more : List Entry) (fresh : List Note) (app : ℕ) → length core.notes ≡ length core.log.entries → IsLegalCore (with_more core more fresh) → IsNoted (with_more core more fresh) →
    All (λ (e : Entry). e.app ≢ app) more → CalledByOthers core (with_more core more fresh) app
others_more core more fresh app even legal noted others =
    let dues = due-parts core.log.entries more core.notes fresh even noted in
    record { entries = more; notes = fresh; by_others = others; grown = refl; legal = legal; before = dues.0; noted = dues.1 }

module _ (old new : Core) (app : ℕ) (first : 1 ≤ app) (others : CalledByOthers old new app) where
  abbrev s : State
  s = state_of old

  more_legal : LegalFrom old.limits old.log.entries s others.entries
  more_legal =
      legal_back old.limits [] (opening old.limits (apps_of old)) old.log.entries others.entries
      (subst (λ (core : Core). LegalFrom core.limits [] (opening core.limits (apps_of core)) core.log.entries) others.grown others.legal)

  pub left_meanwhile : allowance_of (left_of new.log) app ≡ allowance_of (left_of old.log) app
  left_meanwhile =
      ap (λ (core : Core). allowance_of (left_of core.log) app) others.grown
      ∙ ap (λ (l : List Allowance). allowance_of l app) (left_further (allowances old.log.budgets) old.log.entries others.entries)
      ∙ left_alone (left_of old.log) app others.entries first (callers_from_one old.limits old.log.entries s others.entries more_legal) others.by_others

  apps_meanwhile : apps_of new ≡ apps_of old
  apps_meanwhile = ap (λ (core : Core). apps_of core) others.grown

  pub standing_meanwhile : standing_of (state_of new) app ≡ standing_of s app
  standing_meanwhile =
      ap (λ (core : Core). standing_of (state_of core) app) others.grown
      ∙ ap (λ (t : State). standing_of t app) (state_further old.limits [] (opening old.limits (apps_of old)) old.log.entries others.entries)
      ∙ standing_alone old.limits old.log.entries s app others.entries others.by_others more_legal

  -- what the application might call before, it may call still
  pub may_meanwhile : (call : Call) → MayCall old app call → MayCall new app call
  may_meanwhile call may = record {
    known = subst (λ (n : ℕ). app ≤ n) (sym apps_meanwhile) may.known;
    standing = subst (λ (standing : Standing). IsTrue (may_call standing call)) (sym standing_meanwhile) may.standing;
    room = record {
      known = omega (arith, may.known, apps_meanwhile, length-left_of new.log);
      one_entry = subst (λ (a : Allowance). 1 ≤ a.entries) (sym left_meanwhile) may.room.one_entry;
      its_bytes = subst (λ (a : Allowance). call_bytes call ≤ a.bytes) (sym left_meanwhile) may.room.its_bytes;
    };
    within = may.within;
  }
