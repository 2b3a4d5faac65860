-- The test of a call's condition.
use Rattle.std.proofs.Common.{◌≡◌, ◌↔◌, ℕ, ◌≤◌, ◌&&◌, Bool, true, false, leb, length, IsTrue, refl, ap, sym, ◌∙◌, subst, arith}
use Rattle.std.proofs.lemmas.Bool.Decides.{nat_tests}
use Rattle.bus_words.specs.declared.history.Call.{Call}
use Rattle.journal_store.specs.declared.allowance.Allowance.{Allowance}
use Rattle.bus_words.specs.Bus.{State, standing_of}
use Rattle.bus_words.specs.Entries.{call_bytes}
use Rattle.journal_store.specs.Budgets.{allowance_of}
use Rattle.bus_words.specs.Log.{left_of}
use Rattle.bus_words.specs.Machine.{may_call}
use Rattle.bus_words.proofs.Journals.{length-left_of}
use Rattle.bus_core.specs.Core.{is_within}
use Rattle.sb_calls.specs.declared.journalled.BusCore.TheInside.{Inside}
use Rattle.sb_calls.specs.Core.{Core, MayCall, state_of}
use Rattle.sb_calls.specs.Inside.{core_of, Stands}
use Rattle.sb_calls.proofs.EntryLemma.{bus_is}

-- four tests that hold
parts : (p q r s : Bool) → (p && q && r && s) ≡ true → (p ≡ true) × (q ≡ true) × (r ≡ true) × (s ≡ true)
parts true true true true is = (refl, refl, refl, refl)
parts true true true false is = absurd (cc (is))
parts true true false s is = absurd (cc (is))
parts true false r s is = absurd (cc (is))
parts false q r s is = absurd (cc (is))

all : (p q r s : Bool) → p ≡ true → q ≡ true → r ≡ true → s ≡ true → (p && q && r && s) ≡ true
all p q r s first second third fourth =
    ap (λ b. b && q && r && s) first
    ∙ ap (λ b. true && b && r && s) second
    ∙ ap (λ b. true && true && b && s) third
    ∙ ap (λ b. true && true && true && b) fourth

at_most : (m n : ℕ) → leb m n ≡ true → m ≤ n
at_most m n is = grind (arith, nat_tests)

tested : (m n : ℕ) → m ≤ n → leb m n ≡ true
tested m n within = grind (arith, nat_tests)

pub permitted : (a : Inside) (now : Core) (app : ℕ) (call : Call) (lets result : Bool) (left : Allowance) → core_of a ≡ now → Stands a → app ≤ length a.noted.log.budgets →
    lets ≡ may_call (standing_of a.core.whole.bus app) call → left ≡ allowance_of (left_of a.noted.log) app →
    result ≡ (lets && leb 1 left.entries && leb (call_bytes call) left.bytes && is_within call) → IsTrue result ↔ MayCall now app call
permitted a now app call lets result left viewed stands known is_lets is tests =
    let standing : lets ≡ may_call (standing_of (state_of (core_of a)) app) call = is_lets ∙ ap (λ (s : State). may_call (standing_of s app) call) (bus_is a stands) in
    let P : Core → Type 0 = λ o. IsTrue result ↔ MayCall o app call in
    subst P viewed (
      λ yes.
          let four = parts lets (leb 1 left.entries) (leb (call_bytes call) left.bytes) (is_within call) (sym tests ∙ yes) in
          record {
            known = known;
            standing = sym standing ∙ four.0;
            room = record {
              known = omega (arith, known, length-left_of a.noted.log);
              one_entry = subst (λ (l : Allowance). 1 ≤ l.entries) is (at_most 1 left.entries four.1);
              its_bytes = subst (λ (l : Allowance). call_bytes call ≤ l.bytes) is (at_most (call_bytes call) left.bytes four.2);
            };
            within = four.3;
          },
      λ may.
          tests
          ∙ all lets (leb 1 left.entries) (leb (call_bytes call) left.bytes) (is_within call) (standing ∙ may.standing)
          (tested 1 left.entries (subst (λ (l : Allowance). 1 ≤ l.entries) (sym is) may.room.one_entry))
          (tested (call_bytes call) left.bytes (subst (λ (l : Allowance). call_bytes call ≤ l.bytes) (sym is) may.room.its_bytes))
          may.within,
    )
