-- Whether the bus is asked, test by test.
use Rattle.std.proofs.Common.{◌≡◌, ℕ, ◌<◌, ◌≤◌, ◌&&◌, not, Bool, true, false, cond, leb, ltb, Option, Some, None, is_some, Result, Ok, Err, IfOk, List, refl, ap, sym, ◌∙◌, subst, arith}
use Rattle.std.specs.Option.{option_or}
use Rattle.std.specs.Result.{result_err}
use Rattle.std.proofs.lemmas.Bool.Decides.{nat_tests}
use Rattle.fsw_base.specs.declared.config.Scope.{Scope}
use Rattle.fsw_base.specs.declared.events.EventKind.{EventKind}
use Rattle.bus_words.specs.declared.history.Call.TheVariants.{Subscribe, TransmitBuffer, Release, PoolPut, Register, SendEvent, LogMode, Figures}
use Rattle.bus_words.specs.Bus.{Standing, Active, Waiting, Ended, standing_of}
use Rattle.bus_words.specs.Machine.{refused_if, may_call}
use Rattle.bus_core.specs.Core.{Plain, MayAct}
use Rattle.checked_bus.specs.declared.refusal.Refusal.{Refusal}
use Rattle.checked_bus.specs.declared.refusal.Refusal.TheVariants.{NoApplication, TooLong, NotActive, NoNumbers}

-- What a `?` hands on. --

pub handed_on : {T : Type 0} (r : Result T Refusal) (e : Refusal) (why : Option Refusal) → result_err r ≡ why → r ≡ Err e → Some e ≡ why
handed_on {T} r e why is was = let told : Result T Refusal → Option Refusal = λ x. result_err x in sym (ap told was) ∙ is

pub none_handed : {T : Type 0} (r : Result T Refusal) (x : T) (why : Option Refusal) → result_err r ≡ why → r ≡ Ok x → None ≡ why
none_handed {T} r x why is was = let told : Result T Refusal → Option Refusal = λ y. result_err y in sym (ap told was) ∙ is

pub if_ok-map : {T E : Type 0} (P Q : T → Type 0) (r : Result T E) → ((x : T) → P x → Q x) → IfOk r P → IfOk r Q
if_ok-map P Q (Ok x) to holds = to x holds
if_ok-map P Q (Err e) to holds = holds

-- The chain of reasons. --

abbrev pub chain : Bool → Bool → Bool → Bool → Option Refusal
chain is_app within active number =
    refused_if (not is_app) NoApplication (refused_if (not within) TooLong (refused_if (not active) NotActive (refused_if (not number) NoNumbers None)))

-- whether there is such an application
abbrev pub app_cause : Bool → Option Refusal
app_cause is_app = cond {A = Option Refusal} is_app None (Some NoApplication)

pub is_app : (app apps : ℕ) → 1 ≤ app → app ≤ apps → (leb 1 app && leb app apps) ≡ true
is_app app apps first known = ap (λ b. b && leb app apps) one ∙ there
  where
    one : leb 1 app ≡ true
    one = grind (arith, nat_tests)

    there : leb app apps ≡ true
    there = grind (arith, nat_tests)

pub of_no_app : (a w o n : Bool) (e : Refusal) → Some e ≡ app_cause a → Some e ≡ chain a w o n
of_no_app true w o n e never = absurd (cc (never))
of_no_app false w o n e is = is

pub of_app : (a : Bool) → None ≡ app_cause a → a ≡ true
of_app true is = refl
of_app false never = absurd (cc (never))

module _ (a w o n : Bool) (app : a ≡ true) where
  pub of_long : w ≡ false → Some TooLong ≡ chain a w o n
  of_long long = sym (ap (λ b. chain b w o n) app ∙ ap (λ b. chain true b o n) long)

  pub of_idle : w ≡ true → o ≡ false → Some NotActive ≡ chain a w o n
  of_idle within idle = sym (ap (λ b. chain b w o n) app ∙ ap (λ b. chain true b o n) within ∙ ap (λ b. chain true true b n) idle)

  pub of_spent : w ≡ true → o ≡ true → n ≡ false → Some NoNumbers ≡ chain a w o n
  of_spent within active spent = sym (ap (λ b. chain b w o n) app ∙ ap (λ b. chain true b o n) within ∙ ap (λ b. chain true true b n) active ∙ ap (λ b. chain true true true b) spent)

  pub of_none : w ≡ true → o ≡ true → n ≡ true → None ≡ chain a w o n
  of_none within active left = sym (ap (λ b. chain b w o n) app ∙ ap (λ b. chain true b o n) within ∙ ap (λ b. chain true true b n) active ∙ ap (λ b. chain true true true b) left)

-- Reasons behind the first ones. --

pub first_reason : (why more : Option Refusal) (e : Refusal) → Some e ≡ why → Some e ≡ option_or why more
first_reason why more e is = let P : Option Refusal → Type 0 = λ o. Some e ≡ option_or o more in subst P is refl

pub next_reason : (why more : Option Refusal) (told : Option Refusal) → None ≡ why → told ≡ more → told ≡ option_or why more
next_reason why more told none is = let P : Option Refusal → Type 0 = λ o. told ≡ option_or o more in subst P none is

-- an argument that says nothing known, and one that does
pub of_unfit : {X : Type 0} (o : Option X) (e : Refusal) → o ≡ None → Some e ≡ refused_if (not (is_some o)) e None
of_unfit {X} o e none = let known : Option X → Option Refusal = λ x. refused_if (not (is_some x)) e None in sym (ap known none)

pub of_fit : {X : Type 0} (o : Option X) (x : X) (e : Refusal) → o ≡ Some x → None ≡ refused_if (not (is_some o)) e None
of_fit {X} o x e some = let known : Option X → Option Refusal = λ y. refused_if (not (is_some y)) e None in sym (ap known some)

-- a test that fails, and one that passes
pub of_test : (test : Bool) (e : Refusal) → test ≡ false → Some e ≡ refused_if (not test) e None
of_test test e is = sym (ap (λ b. refused_if (not b) e None) is)

pub of_pass : (test : Bool) (e : Refusal) → test ≡ true → None ≡ refused_if (not test) e None
of_pass test e is = sym (ap (λ b. refused_if (not b) e None) is)

-- a test that hits, and one that doesn't
pub of_hit : (test : Bool) (e : Refusal) → test ≡ true → Some e ≡ refused_if test e None
of_hit test e is = sym (ap (λ b. refused_if b e None) is)

pub of_miss : (test : Bool) (e : Refusal) → test ≡ false → None ≡ refused_if test e None
of_miss test e is = sym (ap (λ b. refused_if b e None) is)

-- a test before others
pub of_first : (test : Bool) (e : Refusal) (more : Option Refusal) → test ≡ true → Some e ≡ refused_if test e more
of_first test e more is = sym (ap (λ b. refused_if b e more) is)

pub of_later : (test : Bool) (e : Refusal) (more told : Option Refusal) → test ≡ false → told ≡ more → told ≡ refused_if test e more
of_later test e more told is rest = rest ∙ sym (ap (λ b. refused_if b e more) is)

-- a number past the most there may be, and one that isn't
pub over : (most n : ℕ) → most < n → ltb most n ≡ true
over most n more = grind (arith, nat_tests)

pub not_over : (most n : ℕ) → n ≤ most → ltb most n ≡ false
not_over most n few = grind (arith, nat_tests)

-- a test that doesn't pass
pub not_true : (test : Bool) → (test ≡ true → ⊥) → test ≡ false
not_true true never = absurd (never refl)
not_true false never = refl

-- A registration, of which the number of filters is tested after the application. --

abbrev pub register_chain : Bool → Bool → Option Refusal → Option Refusal → Option Refusal
register_chain is_app many first more = refused_if (not is_app) NoApplication (refused_if many TooLong (option_or first more))

pub unserved : (a many : Bool) (first more : Option Refusal) (e : Refusal) → Some e ≡ app_cause a → Some e ≡ register_chain a many first more
unserved true many first more e never = absurd (cc (never))
unserved false many first more e is = is

pub too_many : (a many : Bool) (first more : Option Refusal) → a ≡ true → many ≡ true → Some TooLong ≡ register_chain a many first more
too_many a many first more app is = sym (ap (λ b. register_chain b many first more) app ∙ ap (λ b. register_chain true b first more) is)

pub few_enough : (a many : Bool) (first more answer : Option Refusal) → a ≡ true → many ≡ false → answer ≡ option_or first more → answer ≡ register_chain a many first more
few_enough a many first more answer app few is = is ∙ sym (ap (λ b. register_chain b many first more) app ∙ ap (λ b. register_chain true b first more) few)

-- Calls that are asked alike. --

-- what an application may call that is active, whatever else it says
same-transmit : (s : Standing) (buf : ℕ) (bytes : List ℕ) (inc : Bool) → may_call s Figures ≡ may_call s (TransmitBuffer buf bytes inc)
same-transmit Active buf bytes inc = refl
same-transmit (Waiting pipe) buf bytes inc = refl
same-transmit Ended buf bytes inc = refl

same-release : (s : Standing) (buf : ℕ) → may_call s Figures ≡ may_call s (Release buf)
same-release Active buf = refl
same-release (Waiting pipe) buf = refl
same-release Ended buf = refl

same-put : (s : Standing) (pool grant : ℕ) → may_call s Figures ≡ may_call s (PoolPut pool grant)
same-put Active pool grant = refl
same-put (Waiting pipe) pool grant = refl
same-put Ended pool grant = refl

same-register : (s : Standing) (filters : List (ℕ × ℕ)) → may_call s Figures ≡ may_call s (Register filters)
same-register Active filters = refl
same-register (Waiting pipe) filters = refl
same-register Ended filters = refl

same-subscribe : (s : Standing) (id pipe limit : ℕ) (one other : Scope) → may_call s (Subscribe id pipe limit one) ≡ may_call s (Subscribe id pipe limit other)
same-subscribe Active id pipe limit one other = refl
same-subscribe (Waiting pipe) id own limit one other = refl
same-subscribe Ended id pipe limit one other = refl

same-event : (s : Standing) (id : ℕ) (one other : EventKind) (text : List ℕ) → may_call s (SendEvent id one text) ≡ may_call s (SendEvent id other text)
same-event Active id one other text = refl
same-event (Waiting pipe) id one other text = refl
same-event Ended id one other text = refl

same-mode : (s : Standing) (one other : ℕ) → may_call s (LogMode one) ≡ may_call s (LogMode other)
same-mode Active one other = refl
same-mode (Waiting pipe) one other = refl
same-mode Ended one other = refl

module _ (core : Plain) (app : ℕ) where
  abbrev s_of : Standing
  s_of = standing_of core.whole.bus app

  -- the reasons are the same
  pub asked-transmit : (a : Bool) (buf : ℕ) (bytes : List ℕ) (inc : Bool) → chain a true (may_call s_of Figures) true ≡ chain a true (may_call s_of (TransmitBuffer buf bytes inc)) true
  asked-transmit a buf bytes inc = ap (λ b. chain a true b true) (same-transmit s_of buf bytes inc)

  pub asked-release : (a : Bool) (buf : ℕ) → chain a true (may_call s_of Figures) true ≡ chain a true (may_call s_of (Release buf)) true
  asked-release a buf = ap (λ b. chain a true b true) (same-release s_of buf)

  pub asked-put : (a : Bool) (pool grant : ℕ) → chain a true (may_call s_of Figures) true ≡ chain a true (may_call s_of (PoolPut pool grant)) true
  asked-put a pool grant = ap (λ b. chain a true b true) (same-put s_of pool grant)

  pub asked-register : (a : Bool) (filters : List (ℕ × ℕ)) → chain a true (may_call s_of Figures) true ≡ chain a true (may_call s_of (Register filters)) true
  asked-register a filters = ap (λ b. chain a true b true) (same-register s_of filters)

  -- and so is the condition
  pub may-transmit : (buf : ℕ) (bytes : List ℕ) (inc : Bool) → MayAct core app Figures → MayAct core app (TransmitBuffer buf bytes inc)
  may-transmit buf bytes inc may = record { known = may.known; standing = sym (same-transmit s_of buf bytes inc) ∙ may.standing; within = refl }

  pub may-release : (buf : ℕ) → MayAct core app Figures → MayAct core app (Release buf)
  may-release buf may = record { known = may.known; standing = sym (same-release s_of buf) ∙ may.standing; within = refl }

  pub may-put : (pool grant : ℕ) → MayAct core app Figures → MayAct core app (PoolPut pool grant)
  may-put pool grant may = record { known = may.known; standing = sym (same-put s_of pool grant) ∙ may.standing; within = refl }

  pub may-register : (filters : List (ℕ × ℕ)) → MayAct core app Figures → MayAct core app (Register filters)
  may-register filters may = record { known = may.known; standing = sym (same-register s_of filters) ∙ may.standing; within = refl }

  pub may-subscribe : (id pipe limit : ℕ) (one other : Scope) → MayAct core app (Subscribe id pipe limit one) → MayAct core app (Subscribe id pipe limit other)
  may-subscribe id pipe limit one other may = record { known = may.known; standing = sym (same-subscribe s_of id pipe limit one other) ∙ may.standing; within = refl }

  pub may-event : (id : ℕ) (one other : EventKind) (text : List ℕ) → MayAct core app (SendEvent id one text) → MayAct core app (SendEvent id other text)
  may-event id one other text may = record { known = may.known; standing = sym (same-event s_of id one other text) ∙ may.standing; within = may.within }

  pub may-mode : (mode : ℕ) → mode ≤ 1 → MayAct core app (LogMode 0) → MayAct core app (LogMode mode)
  may-mode mode low may = record { known = may.known; standing = sym (same-mode s_of 0 mode) ∙ may.standing; within = is_low }
    where
      is_low : leb mode 1 ≡ true
      is_low = grind (arith, nat_tests)
