-- The test of a call's condition.
use Rattle.std.proofs.Common.{◌≡◌, ◌↔◌, ℕ, ◌≤◌, ◌&&◌, Bool, true, false, leb, IsTrue, refl, ap, sym, ◌∙◌, subst, arith}
use Rattle.std.proofs.lemmas.Bool.Decides.{nat_tests}
use Rattle.journal_store.specs.declared.allowance.Allowance.{Allowance}
use Rattle.journal_store.specs.Budgets.{allowance_of}
use Rattle.tbl_words.specs.declared.history.Call.{Call}
use Rattle.tbl_words.specs.declared.history.Call.TheVariants.{End}
use Rattle.tbl_words.specs.Entries.{call_bytes}
use Rattle.tbl_words.specs.Log.{left_of}
use Rattle.table_core.specs.Core.{is_within}
use Rattle.tbl_load.specs.Core.{Core, MayCall}

-- three tests that hold
parts : (p q r : Bool) → (p && q && r) ≡ true → (p ≡ true) × (q ≡ true) × (r ≡ true)
parts true true true is = (refl, refl, refl)
parts true true false is = absurd (cc (is))
parts true false r is = absurd (cc (is))
parts false q r is = absurd (cc (is))

all : (p q r : Bool) → p ≡ true → q ≡ true → r ≡ true → (p && q && r) ≡ true
all p q r first second third = ap (λ b. b && q && r) first ∙ ap (λ b. true && b && r) second ∙ ap (λ b. true && true && b) third

pub at_most : (m n : ℕ) → leb m n ≡ true → m ≤ n
at_most m n is = grind (arith, nat_tests)

pub tested : (m n : ℕ) → m ≤ n → leb m n ≡ true
tested m n within = grind (arith, nat_tests)

pub permitted : (core : Core) (app : ℕ) (call : Call) (open_to result : Bool) (left : Allowance) → IsTrue open_to ↔ MayCall core app End → left ≡ allowance_of (left_of core.log) app →
    result ≡ (open_to && leb (call_bytes call) left.bytes && is_within call) → IsTrue result ↔ MayCall core app call
permitted core app call open_to result left last is tests = (
  λ yes.
      let three = parts open_to (leb (call_bytes call) left.bytes) (is_within call) (sym tests ∙ yes) in
      let may = last.0 three.0 in
      record {
        known = may.known;
        standing = may.standing;
        room = record {
          known = may.room.known;
          one_entry = may.room.one_entry;
          its_bytes = subst (λ (l : Allowance). call_bytes call ≤ l.bytes) is (at_most (call_bytes call) left.bytes three.1);
        };
        within = three.2;
      },
  λ may.
      tests
      ∙ all open_to (leb (call_bytes call) left.bytes) (is_within call)
      (last.1 (record {
        known = may.known;
        standing = may.standing;
        room = record { known = may.room.known; one_entry = may.room.one_entry; its_bytes = omega arith };
        within = refl;
      }))
      (tested (call_bytes call) left.bytes (subst (λ (l : Allowance). call_bytes call ≤ l.bytes) (sym is) may.room.its_bytes))
      may.within,
)
