-- The value that an accepted call gives is the answer's, and a refused one writes nothing.
use Rattle.std.proofs.Common.{◌≡◌, ℕ, Option, Some, Result, Ok, Err, ap, sym, ◌∙◌, subst, arith}
use Rattle.std.specs.Prelude.{IfOk, OnErr}
use Rattle.std.specs.Option.{unwrap_or}
use Rattle.fsw_base.specs.declared.statuses.SbStatus.{SbStatus}
use Rattle.fsw_base.specs.declared.statuses.SbStatus.TheVariants as sb
use Rattle.fsw_base.specs.declared.statuses.EsStatus.{EsStatus}
use Rattle.fsw_base.specs.declared.statuses.EsStatus.TheVariants as es
use Rattle.fsw_base.specs.declared.statuses.EvsStatus.{EvsStatus}
use Rattle.fsw_base.specs.declared.statuses.EvsStatus.TheVariants as evs
use Rattle.bus_words.specs.declared.calls.BusAnswer.{BusAnswer}
use Rattle.bus_words.specs.declared.history.Call.{Call}
use Rattle.bus_core.specs.Core.{Acts}
use Rattle.checked_bus.specs.declared.refusal.Refusal.{Refusal}
use Rattle.checked_bus.specs.declared.refusal.Refusal.TheVariants as why
use Rattle.fsw_core.specs.declared.Core.{Core}
use Rattle.fsw_c.specs.BusAnswers.{AnswersBus}
use Rattle.fsw_c.specs.BusCodes.{sb_code, es_code, evs_code, unasked_code, answer_code, call_code}

-- No refusal has the number 0. --

pub sb-some : (s : SbStatus) → sb_code s ≡ 0 → ⊥
sb-some sb.NoMessage is = absurd (omega (arith, is))
sb-some sb.BadArgument is = absurd (omega (arith, is))
sb-some sb.MaxPipesMet is = absurd (omega (arith, is))
sb-some sb.PipeCrErr is = absurd (omega (arith, is))
sb-some sb.MsgTooBig is = absurd (omega (arith, is))
sb-some sb.BufAlocErr is = absurd (omega (arith, is))
sb-some sb.MaxMsgsMet is = absurd (omega (arith, is))
sb-some sb.MaxDestsMet is = absurd (omega (arith, is))
sb-some sb.BufferInvalid is = absurd (omega (arith, is))

pub es-some : (s : EsStatus) → es_code s ≡ 0 → ⊥
es-some es.NoPool is = absurd (omega (arith, is))
es-some es.ErrMemBlockSize is = absurd (omega (arith, is))
es-some es.BufferNotInPool is = absurd (omega (arith, is))
es-some es.PoolBlockInvalid is = absurd (omega (arith, is))

pub evs-some : (s : EvsStatus) → evs_code s ≡ 0 → ⊥
evs-some evs.AppNotRegistered is = absurd (omega (arith, is))
evs-some evs.EvtNotRegistered is = absurd (omega (arith, is))

pub unasked-some : (s : Refusal) → unasked_code s ≡ 0 → ⊥
unasked-some why.NoApplication is = absurd (omega (arith, is))
unasked-some why.TooLong is = absurd (omega (arith, is))
unasked-some why.NotActive is = absurd (omega (arith, is))
unasked-some why.NoNumbers is = absurd (omega (arith, is))
unasked-some why.NoRoom is = absurd (omega (arith, is))
unasked-some why.BufferOut is = absurd (omega (arith, is))
unasked-some why.NotItsBlock is = absurd (omega (arith, is))
unasked-some why.NoScope is = absurd (omega (arith, is))
unasked-some why.NoKind is = absurd (omega (arith, is))
unasked-some why.NoMode is = absurd (omega (arith, is))
unasked-some why.SameFilter is = absurd (omega (arith, is))

-- what is so of the cores that were found and left is so of the cores behind the handle
pub at-cores : (old new : Option Core) (o n : Core) → old ≡ Some o → new ≡ Some n → (P : Core → Core → Type 0) → P o n → (a b : Core) → old ≡ Some a → new ≡ Some b → P a b
at-cores old new o n was now P holds a b old-is new-is =
    let first : o ≡ a = ap (λ (x : Option Core). unwrap_or x o) (sym was ∙ old-is) in
    let last : n ≡ b = ap (λ (x : Option Core). unwrap_or x n) (sym now ∙ new-is) in
    subst (λ (m : Core). P a m) last (subst (λ (m : Core). P m n) first holds)

module _ {A E : Type 0} (code : E → ℕ) (some : (e : E) → code e ≡ 0 → ⊥) where
  -- a call that isn't refused before
  pub value-read : (form : Result A E → BusAnswer) (P : BusAnswer → Type 0) (r : Result A E) (value : A) (status : ℕ) → status ≡ answer_code code r →
      IfOk r (λ (x : A). value ≡ x) → P (form r) → status ≡ 0 → P (form (Ok value))
  value-read form P (Ok x) value status is same holds zero = subst (λ (y : A). P (form (Ok y))) (sym same) holds
  value-read form P (Err e) value status is same holds zero = absurd (some e (sym is ∙ zero))

  pub kept-read : (Q : Type 0) (r : Result A E) (status : ℕ) → status ≡ answer_code code r → OnErr r Q → (status ≡ 0 → ⊥) → Q
  kept-read Q (Ok x) status is stays refused = absurd (refused is)
  kept-read Q (Err e) status is stays refused = stays

  pub rest-read : (Q : Type 0) (r : Result A E) (status : ℕ) → status ≡ answer_code code r → IfOk r (λ (x : A). Q) → status ≡ 0 → Q
  rest-read Q (Ok x) status is stays zero = stays
  rest-read Q (Err e) status is stays zero = absurd (some e (sym is ∙ zero))

  -- a call of the box
  pub value-found : (form : Result A E → BusAnswer) (P : BusAnswer → Type 0) (r : Result (Result A E) Refusal) (value : A) (status : ℕ) → status ≡ call_code code r →
      IfOk r (λ (it : Result A E). IfOk it (λ (x : A). value ≡ x)) → IfOk r (λ (it : Result A E). P (form it)) → status ≡ 0 → P (form (Ok value))
  value-found form P (Ok it) value status is same holds zero = value-read form P it value status is same holds zero
  value-found form P (Err why) value status is same holds zero = absurd (unasked-some why (sym is ∙ zero))

  pub kept-found : (Q : Type 0) (r : Result (Result A E) Refusal) (status : ℕ) → status ≡ call_code code r → IfOk r (λ (it : Result A E). OnErr it Q) → OnErr r Q → (status ≡ 0 → ⊥) → Q
  kept-found Q (Ok it) status is stays unasked refused = kept-read Q it status is stays refused
  kept-found Q (Err why) status is stays unasked refused = unasked

  -- the same, of the cores behind the handle
  module _ (old new : Option Core) (o n : Core) (was : old ≡ Some o) (now : new ≡ Some n) (app : ℕ) (call : Call) (form : Result A E → BusAnswer) where
    pub answer-read : (r : Result A E) (value : A) (status : ℕ) → status ≡ answer_code code r → IfOk r (λ (x : A). value ≡ x) →
        Acts o.bus.core n.bus.core app call (form r) → status ≡ 0 → AnswersBus old new app call (form (Ok value))
    answer-read r value status is same acts zero =
        at-cores old new o n was now (λ (a b : Core). Acts a.bus.core b.bus.core app call (form (Ok value)))
        (value-read form (λ (x : BusAnswer). Acts o.bus.core n.bus.core app call x) r value status is same acts zero)

    pub answer-found : (r : Result (Result A E) Refusal) (value : A) (status : ℕ) → status ≡ call_code code r → IfOk r (λ (it : Result A E). IfOk it (λ (x : A). value ≡ x)) →
        IfOk r (λ (it : Result A E). Acts o.bus.core n.bus.core app call (form it)) → status ≡ 0 → AnswersBus old new app call (form (Ok value))
    answer-found r value status is same acts zero =
        at-cores old new o n was now (λ (a b : Core). Acts a.bus.core b.bus.core app call (form (Ok value)))
        (value-found form (λ (x : BusAnswer). Acts o.bus.core n.bus.core app call x) r value status is same acts zero)
