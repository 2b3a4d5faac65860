-- What a call does with a buffer that C has, as its export says it.
use Rattle.std.proofs.Common.{◌≡◌, ℕ, Bool, true, false, cond, List, length, Option, Some, None, is_some, Result, Ok, Err, refl, ap, sym, ◌∙◌, subst}
use Rattle.std.specs.Prelude.{IfOk, OnErr, IsTrue}
use Rattle.std.specs.Option.{option_map}
use Rattle.std.specs.Result.{result_err}
use Rattle.fsw_base.specs.declared.statuses.SbStatus.{SbStatus}
use Rattle.fsw_base.specs.declared.statuses.SbStatus.TheVariants as sb
use Rattle.housekeeping.specs.declared.names.CounterName.TheVariants.{Send}
use Rattle.bus_words.specs.declared.calls.BusAnswer.TheVariants.{Number}
use Rattle.bus_words.specs.declared.history.Call.TheVariants.{Allocate, TransmitBuffer, Release}
use Rattle.bus_core.specs.Core.{Acts, with_tick, has_send_number}
use Rattle.bus_core.specs.Answers.{numbered, sent, done}
use Rattle.bus_core.specs.declared.sending.Sent.{Sent}
use Rattle.checked_bus.specs.declared.refusal.Refusal.{Refusal}
use Rattle.checked_bus.specs.Asked.{unasked_allocate, unasked_transmit, unasked_release}
use Rattle.checked_bus.specs.Box.{KeepsOtherBags, KeepsOwnViews, bag_of}
use Rattle.checked_bus.specs.Lent.{Lent, no_buffer, written, StaysOut, IsGivenOut}
use Rattle.fsw_core.specs.declared.Core.{Core}
use Rattle.fsw_c.specs.BusCodes.{sb_code, call_code}
use Rattle.fsw_c.specs.BusAnswers.{BusCall}
use Rattle.fsw_c.specs.Buffers.{written_in, StaysWith}
use Rattle.fsw_c.specs.Lent.{one_of}
use Rattle.fsw_c.proofs.BusSteps.{called, called-send, numbered-form, sent-form, done-form}
use Rattle.fsw_c.proofs.Values.{sb-some, unasked-some}

-- Accepted and refused calls. --

module _ {T : Type 0} where
  -- what is so of the answer of an accepted call
  pub accepted : (r : Result (Result T SbStatus) Refusal) (status : ℕ) → status ≡ call_code sb_code r → status ≡ 0 → (P : T → Type 0) → IfOk r (λ (answer : Result T SbStatus). IfOk answer P) →
      (x : T) × (r ≡ Ok (Ok x)) × P x
  accepted (Ok (Ok x)) status is zero P holds = (x, refl, holds)
  accepted (Ok (Err e)) status is zero P holds = absurd (sb-some e (sym is ∙ zero))
  accepted (Err reason) status is zero P holds = absurd (unasked-some reason (sym is ∙ zero))

  -- what is so of a refused one
  pub refused : (r : Result (Result T SbStatus) Refusal) (status : ℕ) → status ≡ call_code sb_code r → (status ≡ 0 → ⊥) → (P Q : Type 0) → (P → Q) → OnErr r P → IfOk r (λ (answer : Result T SbStatus). OnErr answer Q) → Q
  refused (Ok (Ok x)) status is some P Q gives unasked asked = absurd (some is)
  refused (Ok (Err e)) status is some P Q gives unasked asked = asked
  refused (Err reason) status is some P Q gives unasked asked = gives unasked

-- what is so of the core that was left
pub at_core : (P : Core → Type 0) (new : Option Core) (n : Core) → new ≡ Some n → P n → (q : Core) → new ≡ Some q → P q
at_core P new n now holds q its = let same : Some n ≡ Some q = sym now ∙ its in subst P (cc (same)) holds

-- The buffer that C has. --

-- it is told by what it is
pub one_same : (number : ℕ) (bytes : Option (List ℕ)) → let b : Lent = record { number = number; bytes = bytes } in one_of (one_of b) ≡ one_of b
one_same number None = refl
one_same number (Some bytes) = refl

one_still : (number : ℕ) (was now : Option (List ℕ)) → (cond (is_some was) number 0) ≡ number → option_map (λ (b : List ℕ). length b) now ≡ option_map (λ (b : List ℕ). length b) was →
    cond (is_some now) number 0 ≡ number
one_still number None None is same = is
one_still number None (Some b) is same = absurd (cc (same))
one_still number (Some b) None is same = absurd (cc (same))
one_still number (Some b) (Some c) is same = refl

-- a new one
pub given_one : (o : Core) (app asked number : ℕ) (lent put : Lent) → put ≡ one_of lent → IsGivenOut (bag_of o.bus app) asked number lent → put ≡ lent
given_one o app asked number lent put made given = made ∙ by_bytes lent.bytes given.out
  where
    by_bytes : (bytes : Option (List ℕ)) → is_some bytes ≡ true → record lent { bytes = bytes; number = cond (is_some bytes) lent.number 0 } ≡ record lent { bytes = bytes }
    by_bytes None out = absurd (cc (out))
    by_bytes (Some it) out = refl

pub given_with : (o : Core) (app asked number : ℕ) (lent put : Lent) → put ≡ lent → IsGivenOut (bag_of o.bus app) asked number lent → IsGivenOut (bag_of o.bus app) asked put.number put
given_with o app asked number lent put same given =
    subst (λ (b : Lent). IsGivenOut (bag_of o.bus app) asked b.number b) (sym same) (subst (λ (k : ℕ). IsGivenOut (bag_of o.bus app) asked k lent) (sym given.number_is) given)

-- what stays with C
pub stays_one : (old : Option Core) (o : Core) (app : ℕ) (buffer lent now put : Lent) → old ≡ Some o → lent ≡ buffer → one_of buffer ≡ buffer → put ≡ one_of now → StaysOut (bag_of o.bus app) lent now → StaysWith old app buffer put
stays_one old o app buffer lent now put was is one made stays =
    let still : cond (is_some now.bytes) now.number 0 ≡ now.number =
    ap (λ n. cond (is_some now.bytes) n 0) (stays.number) ∙ one_still lent.number lent.bytes now.bytes (subst (λ (b : Lent). cond (is_some b.bytes) b.number 0 ≡ b.number) (sym is) (ap (λ (b : Lent). b.number) one)) stays.size ∙ sym stays.number in
    let same : put ≡ now = made ∙ ap (λ (n : ℕ). record now { number = n }) still in
    subst (λ (c : Option Core). StaysWith c app buffer put) (sym was)
    (subst (λ (b : Lent). StaysOut (bag_of o.bus app) b put) is (subst (λ (b : Lent). StaysOut (bag_of o.bus app) lent b) (sym same) stays))

pub stays_same : (o : Core) (app : ℕ) (buffer now : Lent) → now ≡ buffer → StaysOut (bag_of o.bus app) buffer now
stays_same o app buffer now is = record {
  number = ap (λ (b : Lent). b.number) is;
  size = ap (λ (b : Lent). option_map (λ (bytes : List ℕ). length bytes) b.bytes) is;
  bytes = ap (written (bag_of o.bus app)) is;
}

pub gone_one : (lent put : Lent) → put ≡ one_of lent → lent ≡ no_buffer → put.bytes ≡ None
gone_one lent put made gone = ap (λ (b : Lent). b.bytes) made ∙ ap (λ (b : Lent). b.bytes) gone

-- The calls. --

module _ (old new : Option Core) (o n : Core) (app : ℕ) (buffer lent : Lent) (was : old ≡ Some o) (now : new ≡ Some n) (tables : n.tables ≡ o.tables) (is_lent : lent ≡ buffer) where
  both : {T : Type 0} (r : Result (Result T SbStatus) Refusal) → IfOk r (λ (answer : Result T SbStatus). KeepsOtherBags o.bus n.bus app) → IfOk r (λ (answer : Result T SbStatus). KeepsOwnViews o.bus n.bus app) →
      IfOk r (λ (answer : Result T SbStatus). KeepsOtherBags o.bus n.bus app × KeepsOwnViews o.bus n.bus app)
  both (Ok answer) others views = (others, views)
  both (Err reason) others views = tt

  pub called_transmit : (inc : Bool) (r : Result (Result Sent SbStatus) Refusal) (status : ℕ) → status ≡ call_code sb_code r → result_err r ≡ unasked_transmit o.bus app lent inc → OnErr r (n.bus ≡ o.bus) →
      IfOk r (λ (answer : Result Sent SbStatus). Acts o.bus.core n.bus.core app (TransmitBuffer lent.number (written (bag_of o.bus app) lent) inc) (sent answer)) →
      IfOk r (λ (answer : Result Sent SbStatus). KeepsOtherBags o.bus n.bus app) → IfOk r (λ (answer : Result Sent SbStatus). KeepsOwnViews o.bus n.bus app) →
      BusCall old new app (TransmitBuffer buffer.number (written_in old app buffer) inc) (λ bus. unasked_transmit bus app buffer inc) status
  called_transmit inc r status is asked nothing does others views =
      subst (λ (b : Lent). BusCall old new app (TransmitBuffer b.number (written_in old app b) inc) (λ bus. unasked_transmit bus app b inc) status) is_lent
      (subst (λ (c : Option Core). BusCall c new app (TransmitBuffer lent.number (written_in c app lent) inc) (λ bus. unasked_transmit bus app lent inc) status) (sym was)
      (called (Some o) new o n app (TransmitBuffer lent.number (written (bag_of o.bus app) lent) inc) (λ bus. unasked_transmit bus app lent inc) refl now tables
      sb_code sent sent-form r status is asked nothing does (both r others views)))

  pub called_allocate : (size : ℕ) (r : Result (Result ℕ SbStatus) Refusal) (status : ℕ) → status ≡ call_code sb_code r → result_err r ≡ unasked_allocate o.bus app size lent → OnErr r (n.bus ≡ o.bus) →
      IfOk r (λ (answer : Result ℕ SbStatus). IsTrue (has_send_number o.bus.core.whole.bus) → Acts o.bus.core n.bus.core app (Allocate size) (numbered answer)) →
      IfOk r (λ (answer : Result ℕ SbStatus). has_send_number o.bus.core.whole.bus ≡ false → answer ≡ Err sb.BufAlocErr) →
      IfOk r (λ (answer : Result ℕ SbStatus). OnErr answer (n.bus.core ≡ with_tick o.bus.core Send)) →
      IfOk r (λ (answer : Result ℕ SbStatus). KeepsOtherBags o.bus n.bus app) → IfOk r (λ (answer : Result ℕ SbStatus). KeepsOwnViews o.bus n.bus app) →
      BusCall old new app (Allocate size) (λ bus. unasked_allocate bus app size buffer) status
  called_allocate size r status is asked nothing does spent refused others views =
      subst (λ (b : Lent). BusCall old new app (Allocate size) (λ bus. unasked_allocate bus app size b) status) is_lent
      (called-send old new o n app (Allocate size) (λ bus. unasked_allocate bus app size lent) was now tables
      numbered numbered-form refl r status is asked nothing does spent refused (both r others views))

  -- the number that an accepted one gave
  pub allocated : (size : ℕ) (r : Result (Result ℕ SbStatus) Refusal) (x : ℕ) → r ≡ Ok (Ok x) →
      IfOk r (λ (answer : Result ℕ SbStatus). IsTrue (has_send_number o.bus.core.whole.bus) → Acts o.bus.core n.bus.core app (Allocate size) (numbered answer)) →
      IfOk r (λ (answer : Result ℕ SbStatus). has_send_number o.bus.core.whole.bus ≡ false → answer ≡ Err sb.BufAlocErr) →
      Acts o.bus.core n.bus.core app (Allocate size) (Number x)
  allocated size r x is does spent = by_left (has_send_number o.bus.core.whole.bus) refl (subst (λ (a : Result (Result ℕ SbStatus) Refusal). IfOk a Does) is does) (subst (λ (a : Result (Result ℕ SbStatus) Refusal). IfOk a Spent) is spent)
    where
      Does : Result ℕ SbStatus → Type 0
      Does answer = IsTrue (has_send_number o.bus.core.whole.bus) → Acts o.bus.core n.bus.core app (Allocate size) (numbered answer)

      Spent : Result ℕ SbStatus → Type 0
      Spent answer = has_send_number o.bus.core.whole.bus ≡ false → answer ≡ Err sb.BufAlocErr

      by_left : (b : Bool) → has_send_number o.bus.core.whole.bus ≡ b → Does (Ok x) → Spent (Ok x) → Acts o.bus.core n.bus.core app (Allocate size) (Number x)
      by_left true left acts none = acts left
      by_left false left acts none = let never = none left in absurd (cc (never))

  pub called_release : (r : Result (Result (Unit {0}) SbStatus) Refusal) (status : ℕ) → status ≡ call_code sb_code r → result_err r ≡ unasked_release o.bus app lent → OnErr r (n.bus ≡ o.bus) →
      IfOk r (λ (answer : Result (Unit {0}) SbStatus). Acts o.bus.core n.bus.core app (Release lent.number) (done answer)) →
      IfOk r (λ (answer : Result (Unit {0}) SbStatus). KeepsOtherBags o.bus n.bus app) → IfOk r (λ (answer : Result (Unit {0}) SbStatus). KeepsOwnViews o.bus n.bus app) →
      BusCall old new app (Release buffer.number) (λ bus. unasked_release bus app buffer) status
  called_release r status is asked nothing does others views =
      subst (λ (b : Lent). BusCall old new app (Release b.number) (λ bus. unasked_release bus app b) status) is_lent
      (called old new o n app (Release lent.number) (λ bus. unasked_release bus app lent) was now tables
      sb_code done done-form r status is asked nothing does (both r others views))
