-- The tests of the conditions of calls.
use Rattle.std.proofs.Common.{◌≡◌, ◌↔◌, ℕ, ◌≤◌, ◌&&◌, not, Bool, true, false, leb, eq-eqb, true≢false, IsTrue, refl, ap, sym, ◌∙◌, subst, arith}
use Rattle.std.proofs.lemmas.Bool.Decides.{nat_tests}
use Rattle.journal_store.specs.declared.allowance.Allowance.{Allowance}
use Rattle.bus_words.specs.declared.history.Call.{Call}
use Rattle.bus_words.specs.declared.history.Call.TheVariants.{Create, Delete, SetOpts, GetOpts, Find, PipeName, Subscribe, Unsubscribe, Transmit, Receive, Pend, Look, Allocate, TransmitBuffer, Release, PoolCreate, PoolGet, PoolPut, PoolFigures, Register, SendEvent, ResetFilter, LogMode, ClearLog, Housekeeping, Figures, End}
use Rattle.bus_words.specs.Bus.{Standing, Active, Waiting, Ended, standing_of, waited_on}
use Rattle.bus_words.specs.Entries.{call_bytes}
use Rattle.bus_words.specs.Machine.{may_call}
use Rattle.bus_core.specs.Core.{is_within}
use Rattle.sb_calls.specs.Core.{Core, MayCall, state_of}
use Rattle.bus_service.specs.Inside.{lets}
use Rattle.bus_service.specs.Ports.{is_look}
use Rattle.bus_service.specs.Words.{Tells}
use Rattle.bus_service.specs.declared.permits.Permits.{Permits}

-- What calls there are. --

-- a call is a look, of which the permits tell nothing; or the last one; or one that who is active makes
data Kind (call : Call) : Type 0 where
  ALook : is_look call ≡ true → ((permits : Permits) → lets permits call ≡ false) → Kind call
  TheLast : call ≡ End → Kind call
  AnyOther : may_call Active call ≡ true → ((pipe : ℕ) → may_call (Waiting pipe) call ≡ false) → ((permits : Permits) → lets permits call ≡ permits.any) → Kind call

kind : (call : Call) → Kind call
kind (Create depth name) = AnyOther refl (λ other. refl) (λ permits. refl)
kind (Delete pipe) = AnyOther refl (λ other. refl) (λ permits. refl)
kind (SetOpts pipe bits) = AnyOther refl (λ other. refl) (λ permits. refl)
kind (GetOpts pipe) = AnyOther refl (λ other. refl) (λ permits. refl)
kind (Find name) = AnyOther refl (λ other. refl) (λ permits. refl)
kind (PipeName pipe) = AnyOther refl (λ other. refl) (λ permits. refl)
kind (Subscribe id pipe limit scope) = AnyOther refl (λ other. refl) (λ permits. refl)
kind (Unsubscribe id pipe) = AnyOther refl (λ other. refl) (λ permits. refl)
kind (Transmit bytes inc) = AnyOther refl (λ other. refl) (λ permits. refl)
kind (Receive pipe) = AnyOther refl (λ other. refl) (λ permits. refl)
kind (Pend pipe) = AnyOther refl (λ other. refl) (λ permits. refl)
kind (Look pipe) = ALook refl (λ permits. refl)
kind (Allocate size) = AnyOther refl (λ other. refl) (λ permits. refl)
kind (TransmitBuffer buf bytes inc) = AnyOther refl (λ other. refl) (λ permits. refl)
kind (Release buf) = AnyOther refl (λ other. refl) (λ permits. refl)
kind (PoolCreate bytes) = AnyOther refl (λ other. refl) (λ permits. refl)
kind (PoolGet pool size) = AnyOther refl (λ other. refl) (λ permits. refl)
kind (PoolPut pool grant) = AnyOther refl (λ other. refl) (λ permits. refl)
kind (PoolFigures pool) = AnyOther refl (λ other. refl) (λ permits. refl)
kind (Register filters) = AnyOther refl (λ other. refl) (λ permits. refl)
kind (SendEvent id event text) = AnyOther refl (λ other. refl) (λ permits. refl)
kind (ResetFilter id) = AnyOther refl (λ other. refl) (λ permits. refl)
kind (LogMode mode) = AnyOther refl (λ other. refl) (λ permits. refl)
kind ClearLog = AnyOther refl (λ other. refl) (λ permits. refl)
kind Housekeeping = AnyOther refl (λ other. refl) (λ permits. refl)
kind Figures = AnyOther refl (λ other. refl) (λ permits. refl)
kind End = TheLast refl

-- who may make one of the others as it stands, may make each
alike : (standing : Standing) (call : Call) → may_call Active call ≡ true → ((pipe : ℕ) → may_call (Waiting pipe) call ≡ false) → may_call standing call ≡ may_call standing Figures
alike Active call active waiting = active
alike (Waiting pipe) call active waiting = waiting pipe
alike Ended call active waiting = refl

-- Tests. --

-- three tests that hold
parts : (p q r : Bool) → (p && q && r) ≡ true → (p ≡ true) × (q ≡ true) × (r ≡ true)
parts true true true is = (refl, refl, refl)
parts true true false is = absurd (cc (is))
parts true false r is = absurd (cc (is))
parts false q r is = absurd (cc (is))

all : (p q r : Bool) → p ≡ true → q ≡ true → r ≡ true → (p && q && r) ≡ true
all p q r first second third = ap (λ b. b && q && r) first ∙ ap (λ b. true && b && r) second ∙ ap (λ b. true && true && b) third

-- one that doesn't, and one that does
apart : (p q : Bool) → (not p && q) ≡ true → (p ≡ false) × (q ≡ true)
apart true q is = absurd (true≢false (sym is))
apart false q is = (refl, is)

both : (p q : Bool) → p ≡ false → q ≡ true → (not p && q) ≡ true
both p q first second = ap (λ b. not b && q) first ∙ second

is_false : (p : Bool) → (p ≡ true → ⊥) → p ≡ false
is_false true never = absurd (never refl)
is_false false never = refl

pub at_most : (m n : ℕ) → leb m n ≡ true → m ≤ n
at_most m n is = grind (arith, nat_tests)

pub tested : (m n : ℕ) → m ≤ n → leb m n ≡ true
tested m n within = grind (arith, nat_tests)

-- who may ask for the figures, may make its last call
pub also_last : (core : Core) (app : ℕ) → MayCall core app Figures → MayCall core app End
also_last core app may = record {
  known = may.known;
  standing = active_ends (standing_of (state_of core) app) may.standing;
  room = record { known = may.room.known; one_entry = may.room.one_entry; its_bytes = omega arith };
  within = refl;
}
  where
    active_ends : (standing : Standing) → IsTrue (may_call standing Figures) → IsTrue (may_call standing End)
    active_ends Active may = refl
    active_ends (Waiting pipe) may = absurd (true≢false (sym may))
    active_ends Ended may = absurd (true≢false (sym may))

-- Permits. --

module _ (core : Core) (app : ℕ) (permits : Permits) (tells : Tells core app permits) where
  abbrev standing : Standing
  standing = standing_of (state_of core) app

  -- Calls. --

  module _ (call : Call) where
    abbrev tests : Bool
    tests = lets permits call && leb (call_bytes call) permits.left.bytes && is_within call

    pub permitted : tests ≡ true → MayCall core app call
    permitted holds = by (kind call)
      where
        three : (lets permits call ≡ true) × (leb (call_bytes call) permits.left.bytes ≡ true) × (is_within call ≡ true)
        three = parts (lets permits call) (leb (call_bytes call) permits.left.bytes) (is_within call) holds

        by : Kind call → MayCall core app call
        by (ALook look never) = absurd (true≢false (sym three.0 ∙ never permits))
        by (TheLast end) = subst (λ (c : Call). MayCall core app c) (sym end) (tells.last.0 (sym (ap (lets permits) end) ∙ three.0))
        by (AnyOther active waiting let_by) =
            let may = tells.any.0 (sym (let_by permits) ∙ three.0) in
            record {
              known = may.known;
              standing = alike standing call active waiting ∙ may.standing;
              room = record {
                known = may.room.known;
                one_entry = may.room.one_entry;
                its_bytes = subst (λ (l : Allowance). call_bytes call ≤ l.bytes) tells.left (at_most (call_bytes call) permits.left.bytes three.1);
              };
              within = three.2;
            }

    pub needed : is_look call ≡ false → MayCall core app call → tests ≡ true
    needed no_look may =
        all (lets permits call) (leb (call_bytes call) permits.left.bytes) (is_within call)
        (by (kind call))
        (tested (call_bytes call) permits.left.bytes (subst (λ (l : Allowance). call_bytes call ≤ l.bytes) (sym tells.left) may.room.its_bytes))
        may.within
      where
        by : Kind call → lets permits call ≡ true
        by (ALook look never) = absurd (true≢false (sym look ∙ no_look))
        by (TheLast end) = ap (lets permits) end ∙ tells.last.1 (subst (λ (c : Call). MayCall core app c) end may)
        by (AnyOther active waiting let_by) =
            let_by permits
            ∙ tells.any.1 (record {
              known = may.known;
              standing = sym (alike standing call active waiting) ∙ may.standing;
              room = record { known = may.room.known; one_entry = may.room.one_entry; its_bytes = omega arith };
              within = refl;
            })

  -- Looks. --

  looks : not permits.any && permits.last ≡ true → (st : Standing) → standing ≡ st → MayCall core app (Look (waited_on st))
  looks holds Active is =
      let two = apart permits.any permits.last holds in
      let may = tells.last.0 two.1 in
      absurd (true≢false (sym (tells.any.1 (record {
        known = may.known;
        standing = ap (λ (x : Standing). may_call x Figures) is;
        room = record { known = may.room.known; one_entry = may.room.one_entry; its_bytes = omega arith };
        within = refl;
      })) ∙ two.0))
  looks holds (Waiting pipe) is =
      let may = tells.last.0 ((apart permits.any permits.last holds).1) in
      record {
        known = may.known;
        standing = ap (λ (x : Standing). may_call x (Look pipe)) is ∙ eq-eqb pipe pipe refl;
        room = record { known = may.room.known; one_entry = may.room.one_entry; its_bytes = omega arith };
        within = refl;
      }
  looks holds Ended is =
      let may = tells.last.0 ((apart permits.any permits.last holds).1) in
      absurd (true≢false (sym may.standing ∙ ap (λ (x : Standing). may_call x End) is))

  waits : (st : Standing) → standing ≡ st → MayCall core app (Look (waited_on st)) → not permits.any && permits.last ≡ true
  waits Active is may = absurd (true≢false (sym may.standing ∙ ap (λ (x : Standing). may_call x (Look 0)) is))
  waits (Waiting pipe) is may =
      both permits.any permits.last
      (is_false permits.any (λ any. true≢false (sym (tells.any.0 any).standing ∙ ap (λ (x : Standing). may_call x Figures) is)))
      (tells.last.1 (record {
        known = may.known;
        standing = ap (λ (x : Standing). may_call x End) is;
        room = record { known = may.room.known; one_entry = may.room.one_entry; its_bytes = omega arith };
        within = refl;
      }))
  waits Ended is may = absurd (true≢false (sym may.standing ∙ ap (λ (x : Standing). may_call x (Look 0)) is))

  pub may_look : IsTrue (not permits.any && permits.last) ↔ MayCall core app (Look (waited_on standing))
  may_look = (λ holds. looks holds standing refl, waits standing refl)
