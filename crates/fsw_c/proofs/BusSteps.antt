-- What a call of the bus's box does, as an export says it.
use Rattle.std.proofs.Common.{◌≡◌, ℕ, Bool, true, false, not, Option, Some, None, Result, Ok, Err, refl, ap, sym, ◌∙◌, subst}
use Rattle.std.specs.Prelude.{IfOk, OnErr, IsTrue, is_some}
use Rattle.std.specs.Option.{option_or, unwrap_or}
use Rattle.std.specs.Result.{result_err}
use Rattle.fsw_base.specs.declared.statuses.SbStatus.{SbStatus}
use Rattle.fsw_base.specs.declared.statuses.SbStatus.TheVariants.{BufAlocErr}
use Rattle.fsw_base.specs.declared.statuses.EsStatus.{EsStatus}
use Rattle.fsw_base.specs.declared.statuses.EsStatus.TheVariants.{ErrMemBlockSize}
use Rattle.housekeeping.specs.declared.names.CounterName.TheVariants.{Send}
use Rattle.bus_words.specs.declared.calls.BusAnswer.{BusAnswer}
use Rattle.bus_words.specs.declared.history.Call.{Call}
use Rattle.bus_words.specs.declared.history.Call.TheVariants.{Look, PoolGet}
use Rattle.bus_words.specs.Bus.{standing_of, waited_on}
use Rattle.bus_words.specs.Machine.{refused_if}
use Rattle.fsw_base.specs.Grants.{has_numbers}
use Rattle.bus_core.specs.Core.{Acts, with_tick, has_send_number}
use Rattle.bus_core.specs.Answers.{numbered, named, done, sent, waited, pended, pool_told, grant_back, event_told, figures_told}
use Rattle.bus_core.specs.Bags.{KeepsLoans}
use Rattle.bus_core.specs.declared.receiving.Pended.{Pended}
use Rattle.checked_bus.specs.declared.refusal.Refusal.{Refusal}
use Rattle.checked_bus.specs.declared.waits.LookAnswer.{LookAnswer}
use Rattle.checked_bus.specs.Answers.{received}
use Rattle.checked_bus.specs.Asked.{unasked_look}
use Rattle.checked_bus.specs.Box.{Boxed, KeepsOtherBags, KeepsOwnBuffers}
use Rattle.fsw_core.specs.declared.Core.{Core}
use Rattle.fsw_c.specs.BusCodes.{sb_code, es_code, evs_code, bus_code, unasked_code, answer_code, call_code, plain_code, pend_code, look_code}
use Rattle.fsw_c.specs.BusAnswers.{BusCall, Unasked, Asked, Spent, SpentGrants, takes_send_number, KeepsBagsBut, pipe_waited_on}

-- a form of answers: an accepted call has the status 0, a refused one its refusal's
pub record IsForm {T E : Type 0} (code : E → ℕ) (form : Result T E → BusAnswer) : Type 0 where
  pub accepted : (x : T) → bus_code (form (Ok x)) ≡ 0
  pub refused : (e : E) → bus_code (form (Err e)) ≡ code e

pub numbered-form : IsForm sb_code numbered
numbered-form = record { accepted = λ x. refl; refused = λ e. refl }

pub named-form : IsForm sb_code named
named-form = record { accepted = λ x. refl; refused = λ e. refl }

pub done-form : IsForm sb_code done
done-form = record { accepted = λ x. refl; refused = λ e. refl }

pub sent-form : IsForm sb_code sent
sent-form = record { accepted = λ x. refl; refused = λ e. refl }

pub received-form : IsForm sb_code received
received-form = record { accepted = λ x. refl; refused = λ e. refl }

pub pool_told-form : IsForm es_code pool_told
pool_told-form = record { accepted = λ x. refl; refused = λ e. refl }

pub grant_back-form : IsForm es_code grant_back
grant_back-form = record { accepted = λ x. refl; refused = λ e. refl }

pub event_told-form : IsForm evs_code event_told
event_told-form = record { accepted = λ x. refl; refused = λ e. refl }

pub figures_told-form : IsForm es_code figures_told
figures_told-form = record { accepted = λ x. refl; refused = λ e. refl }

pub answer-code : {T E : Type 0} (code : E → ℕ) (form : Result T E → BusAnswer) → IsForm code form → (r : Result T E) → answer_code code r ≡ bus_code (form r)
answer-code code form its (Ok x) = sym (its.accepted x)
answer-code code form its (Err e) = sym (its.refused e)

pub pended-code : (r : Result Pended SbStatus) → pend_code (Ok r) ≡ bus_code (pended r)
pended-code (Ok x) = refl
pended-code (Err e) = refl

-- the core with this bus
same-core : (o n : Core) → n.tables ≡ o.tables → n.bus ≡ o.bus → n ≡ o
same-core o n tables bus = λ i. record { bus = bus i; tables = tables i }

-- the bus with these bags
same-bus : (o n : Boxed) → n.core ≡ o.core → n.bags ≡ o.bags → n ≡ o
same-bus o n core bags = λ i. record { core = core i; bags = bags i }

module _ (old new : Option Core) (o n : Core) (app : ℕ) (call : Call) (reason : Boxed → Option Refusal) (was : old ≡ Some o) (now : new ≡ Some n) (tables : n.tables ≡ o.tables) where
  -- a call with its own numbers of statuses
  pub called-as : {T : Type 0} (form : T → BusAnswer) (code : Result T Refusal → ℕ) → ((x : T) → code (Ok x) ≡ bus_code (form x)) → ((why : Refusal) → code (Err why) ≡ unasked_code why) →
      (r : Result T Refusal) (status : ℕ) → status ≡ code r → result_err r ≡ reason o.bus → OnErr r (n.bus ≡ o.bus) →
      IfOk r (λ (answer : T). Acts o.bus.core n.bus.core app call (form answer)) → IfOk r (λ (answer : T). KeepsBagsBut o.bus n.bus app call) → BusCall old new app call reason status
  called-as form code of-ok of-err (Ok answer) status is asked nothing does bags = Asked o n (form answer) was now tables bags (sym asked) does (is ∙ of-ok answer)
  called-as form code of-ok of-err (Err why) status is unasked nothing does bags = Unasked o why was (now ∙ ap Some (same-core o n tables nothing)) (sym unasked) (is ∙ of-err why)

  -- one that always takes its step, if it is asked
  pub called : {T E : Type 0} (code : E → ℕ) (form : Result T E → BusAnswer) → IsForm code form → (r : Result (Result T E) Refusal) (status : ℕ) → status ≡ call_code code r →
      result_err r ≡ reason o.bus → OnErr r (n.bus ≡ o.bus) → IfOk r (λ (answer : Result T E). Acts o.bus.core n.bus.core app call (form answer)) →
      IfOk r (λ (answer : Result T E). KeepsBagsBut o.bus n.bus app call) → BusCall old new app call reason status
  called code form its r status = called-as form (call_code code) (answer-code code form its) (λ why. refl) r status

  -- one that is never refused, if it is asked
  pub called-plain : {T : Type 0} (answer : BusAnswer) → bus_code answer ≡ 0 → (r : Result T Refusal) (status : ℕ) → status ≡ plain_code r →
      result_err r ≡ reason o.bus → OnErr r (n.bus ≡ o.bus) → IfOk r (λ (nothing : T). Acts o.bus.core n.bus.core app call answer) →
      IfOk r (λ (nothing : T). KeepsBagsBut o.bus n.bus app call) → BusCall old new app call reason status
  called-plain answer zero r status = called-as (λ nothing. answer) plain_code (λ nothing. sym zero) (λ why. refl) r status

  -- one that may wait
  pub called-pend : (r : Result (Result Pended SbStatus) Refusal) (status : ℕ) → status ≡ pend_code r →
      result_err r ≡ reason o.bus → OnErr r (n.bus ≡ o.bus) → IfOk r (λ (answer : Result Pended SbStatus). Acts o.bus.core n.bus.core app call (pended answer)) →
      IfOk r (λ (answer : Result Pended SbStatus). KeepsBagsBut o.bus n.bus app call) → BusCall old new app call reason status
  called-pend r status = called-as pended pend_code pended-code (λ why. refl) r status

  -- one that gives a message a number, or says that none is left
  pub called-send : {T : Type 0} (form : Result T SbStatus → BusAnswer) → IsForm sb_code form → takes_send_number call ≡ true → (r : Result (Result T SbStatus) Refusal) (status : ℕ) → status ≡ call_code sb_code r →
      result_err r ≡ reason o.bus → OnErr r (n.bus ≡ o.bus) →
      IfOk r (λ (answer : Result T SbStatus). IsTrue (has_send_number o.bus.core.whole.bus) → Acts o.bus.core n.bus.core app call (form answer)) →
      IfOk r (λ (answer : Result T SbStatus). has_send_number o.bus.core.whole.bus ≡ false → answer ≡ Err BufAlocErr) →
      IfOk r (λ (answer : Result T SbStatus). OnErr answer (n.bus.core ≡ with_tick o.bus.core Send)) →
      IfOk r (λ (answer : Result T SbStatus). KeepsBagsBut o.bus n.bus app call) → BusCall old new app call reason status
  called-send form its takes (Err why) status is unasked nothing does spent refused bags = Unasked o why was (now ∙ ap Some (same-core o n tables nothing)) (sym unasked) is
  called-send {T} form its takes (Ok answer) status is asked nothing does spent refused bags = by_number (has_send_number o.bus.core.whole.bus) refl
    where
      by_number : (b : Bool) → has_send_number o.bus.core.whole.bus ≡ b → BusCall old new app call reason status
      by_number true left = Asked o n (form answer) was now tables bags (sym asked) (does left) (is ∙ answer-code sb_code form its answer)
      by_number false none =
          let full : answer ≡ Err BufAlocErr = spent none in
          let ticked : n.bus.core ≡ with_tick o.bus.core Send = subst (λ (a : Result T SbStatus). OnErr a (n.bus.core ≡ with_tick o.bus.core Send)) full refused in
          Spent o n takes was now tables bags (sym asked) none ticked (is ∙ ap (answer_code sb_code) full)

  -- one that gives a grant a number, or says that none is left
  pub called-get : {T : Type 0} (form : Result T EsStatus → BusAnswer) → IsForm es_code form → (pool size : ℕ) → call ≡ PoolGet pool size → (r : Result (Result T EsStatus) Refusal) (status : ℕ) → status ≡ call_code es_code r →
      result_err r ≡ reason o.bus → OnErr r (n.bus ≡ o.bus) →
      IfOk r (λ (answer : Result T EsStatus). IsTrue (has_numbers o.bus.core.whole.bus.pools pool) → Acts o.bus.core n.bus.core app call (form answer)) →
      IfOk r (λ (answer : Result T EsStatus). has_numbers o.bus.core.whole.bus.pools pool ≡ false → answer ≡ Err ErrMemBlockSize) →
      IfOk r (λ (answer : Result T EsStatus). has_numbers o.bus.core.whole.bus.pools pool ≡ false → n.bus.core ≡ o.bus.core) →
      n.bus.bags ≡ o.bus.bags → KeepsBagsBut o.bus n.bus app call → BusCall old new app call reason status
  called-get form its pool size get (Err why) status is unasked nothing does spent unchanged bags keeps = Unasked o why was (now ∙ ap Some (same-core o n tables nothing)) (sym unasked) is
  called-get {T} form its pool size get (Ok answer) status is asked nothing does spent unchanged bags keeps = by_number (has_numbers o.bus.core.whole.bus.pools pool) refl
    where
      by_number : (b : Bool) → has_numbers o.bus.core.whole.bus.pools pool ≡ b → BusCall old new app call reason status
      by_number true left = Asked o n (form answer) was now tables keeps (sym asked) (does left) (is ∙ answer-code es_code form its answer)
      by_number false none =
          let same : n.bus ≡ o.bus = same-bus o.bus n.bus (unchanged none) bags in
          SpentGrants o pool size get was (now ∙ ap Some (same-core o n tables same)) (sym asked) none (is ∙ ap (answer_code es_code) (spent none))

  -- one that isn't refused before
  pub answered : {T E : Type 0} (code : E → ℕ) (form : Result T E → BusAnswer) → IsForm code form → (r : Result T E) (status : ℕ) → status ≡ answer_code code r → reason o.bus ≡ None →
      Acts o.bus.core n.bus.core app call (form r) → KeepsBagsBut o.bus n.bus app call → BusCall old new app call reason status
  answered code form its r status is asked does bags = Asked o n (form r) was now tables bags asked does (is ∙ answer-code code form its r)

-- What a call keeps whether it is asked or not, and three things that it keeps if it is asked. --

pub always : {T E : Type 0} {P : Type 0} (r : Result T E) → P → IfOk r (λ (x : T). P)
always (Ok x) p = p
always (Err e) p = tt

pub three : {T E : Type 0} (P Q R : Type 0) (r : Result T E) → IfOk r (λ (x : T). P) → IfOk r (λ (x : T). Q) → IfOk r (λ (x : T). R) → IfOk r (λ (x : T). P × Q × R)
three P Q R (Ok x) p q s = (p, q, s)
three P Q R (Err e) p q s = tt

-- what is so of every application is so of one
pub for-app : {T E : Type 0} (P : T → ℕ → Type 0) (r : Result T E) → IfOk r (λ (x : T). (app : ℕ) → P x app) → (app : ℕ) → IfOk r (λ (x : T). P x app)
for-app P (Ok x) each app = each app
for-app P (Err e) each app = tt

-- An argument that says nothing known is refused before: if the call is asked, it is known. --

pub known : {X : Type 0} (first : Option Refusal) (found : Option X) (other : X) (e : Refusal) → option_or first (refused_if (not (is_some found)) e None) ≡ None →
    (P : X → Type 0) → ((x : X) → found ≡ Some x → P x) → P (unwrap_or found other)
known first (Some x) other e asked P each = each x refl
known None None other e asked P each = absurd (cc (asked))
known (Some why) None other e asked P each = absurd (cc (asked))

-- refused for a first reason, or because the argument says nothing known
abbrev reason_of : {X : Type 0} → Option X → Refusal → (Boxed → Option Refusal) → Boxed → Option Refusal
reason_of found e first bus = option_or (first bus) (refused_if (not (is_some found)) e None)

module _ {T E X : Type 0} (old new : Option Core) (o n : Core) (app : ℕ) (make : X → Call) (found : Option X) (other : X) (e : Refusal) (first : Boxed → Option Refusal) (was : old ≡ Some o) (now : new ≡ Some n) (tables : n.tables ≡ o.tables) where
  done-known : (form : Result T E → BusAnswer) (r : Result (Result T E) Refusal) → result_err r ≡ reason_of found e first o.bus →
      IfOk r (λ (answer : Result T E). (x : X) → found ≡ Some x → Acts o.bus.core n.bus.core app (make x) (form answer)) →
      IfOk r (λ (answer : Result T E). Acts o.bus.core n.bus.core app (make (unwrap_or found other)) (form answer))
  done-known form (Ok answer) is each = known (first o.bus) found other e (sym is) (λ x. Acts o.bus.core n.bus.core app (make x) (form answer)) each
  done-known form (Err why) is each = tt

  -- a call with such an argument
  pub called-with : (code : E → ℕ) (form : Result T E → BusAnswer) → IsForm code form → (r : Result (Result T E) Refusal) (status : ℕ) → status ≡ call_code code r →
      result_err r ≡ reason_of found e first o.bus → OnErr r (n.bus ≡ o.bus) →
      IfOk r (λ (answer : Result T E). (x : X) → found ≡ Some x → Acts o.bus.core n.bus.core app (make x) (form answer)) →
      IfOk r (λ (answer : Result T E). KeepsBagsBut o.bus n.bus app (make (unwrap_or found other))) → BusCall old new app (make (unwrap_or found other)) (reason_of found e first) status
  called-with code form its r status is asked nothing does bags =
      called old new o n app (make (unwrap_or found other)) (reason_of found e first) was now tables code form its r status is asked nothing (done-known form r asked does) bags

module _ (old new : Option Core) (o n : Core) (app : ℕ) (was : old ≡ Some o) (now : new ≡ Some n) (tables : n.tables ≡ o.tables) where
  -- the pipe that is looked at
  pub at-waited : (pipe : ℕ) → pipe ≡ waited_on (standing_of o.bus.core.whole.bus app) → pipe ≡ pipe_waited_on old app
  at-waited pipe is = is ∙ sym (ap (λ (c : Option Core). pipe_waited_on c app) was)

  loans-look : (r : Result LookAnswer Refusal) → IfOk r (λ (looked : LookAnswer). looked.pipe ≡ waited_on (standing_of o.bus.core.whole.bus app)) →
      IfOk r (λ (looked : LookAnswer). KeepsLoans o.bus.core n.bus.core looked.pipe) → IfOk r (λ (looked : LookAnswer). KeepsLoans o.bus.core n.bus.core (pipe_waited_on old app))
  loans-look (Ok looked) pipe loans = subst (λ (p : ℕ). KeepsLoans o.bus.core n.bus.core p) (at-waited looked.pipe pipe) loans
  loans-look (Err why) pipe loans = tt

  does-look : (r : Result LookAnswer Refusal) → IfOk r (λ (looked : LookAnswer). looked.pipe ≡ waited_on (standing_of o.bus.core.whole.bus app)) →
      IfOk r (λ (looked : LookAnswer). Acts o.bus.core n.bus.core app (Look looked.pipe) (waited looked.answer)) →
      IfOk r (λ (looked : LookAnswer). Acts o.bus.core n.bus.core app (Look (pipe_waited_on old app)) (waited looked.answer))
  does-look (Ok looked) pipe does = subst (λ (p : ℕ). Acts o.bus.core n.bus.core app (Look p) (waited looked.answer)) (at-waited looked.pipe pipe) does
  does-look (Err why) pipe does = tt

  pub called-look : (r : Result LookAnswer Refusal) (status : ℕ) → status ≡ look_code r → result_err r ≡ unasked_look o.bus.core app → OnErr r (n.bus ≡ o.bus) →
      IfOk r (λ (looked : LookAnswer). looked.pipe ≡ waited_on (standing_of o.bus.core.whole.bus app)) →
      IfOk r (λ (looked : LookAnswer). Acts o.bus.core n.bus.core app (Look looked.pipe) (waited looked.answer)) →
      IfOk r (λ (looked : LookAnswer). KeepsOtherBags o.bus n.bus app) → IfOk r (λ (looked : LookAnswer). KeepsOwnBuffers o.bus n.bus app) →
      IfOk r (λ (looked : LookAnswer). KeepsLoans o.bus.core n.bus.core looked.pipe) → BusCall old new app (Look (pipe_waited_on old app)) (λ bus. unasked_look bus.core app) status
  called-look r status is asked nothing pipe does others buffers loans =
      called-as old new o n app (Look (pipe_waited_on old app)) (λ bus. unasked_look bus.core app) was now tables
      (λ looked. waited looked.answer) look_code (λ looked. refl) (λ why. refl) r status is asked nothing (does-look r pipe does) (three _ _ _ r others buffers (loans-look r pipe loans))
