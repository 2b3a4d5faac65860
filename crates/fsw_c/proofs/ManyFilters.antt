-- A registration takes 8 filters at most: of more, 9 are as good as all.
use Rattle.std.proofs.Common.{◌≡◌, ℕ, ◌<◌, ◌≤◌, Bool, true, false, ltb, leb, not, List, length, take, Option, Some, None, Result, Ok, Err, refl, ap, sym, ◌∙◌, subst, arith}
use Rattle.std.proofs.lemmas.Bool.Decides.{nat_tests}
use Rattle.std.proofs.lemmas.List.{length-map, length-take-le, take_all}
use Rattle.std.specs.Prelude.{IfOk, OnErr}
use Rattle.std.specs.Option.{option_or}
use Rattle.std.specs.Result.{result_err}
use Rattle.fsw_base.specs.Events.{are_filters}
use Rattle.bus_words.specs.declared.calls.BusAnswer.TheVariants.{Done}
use Rattle.bus_words.specs.declared.history.Call.TheVariants.{Register}
use Rattle.bus_words.specs.Machine.{refused_if}
use Rattle.bus_core.specs.Core.{Plain, Acts}
use Rattle.checked_bus.specs.declared.refusal.Refusal.{Refusal}
use Rattle.checked_bus.specs.declared.refusal.Refusal.TheVariants.{NoApplication, TooLong, SameFilter}
use Rattle.checked_bus.specs.Asked.{is_application, unasked, unasked_register}
use Rattle.fsw_core.specs.declared.Core.{Core}
use Rattle.fsw_c.specs.declared.events.FswFilter.{FswFilter}
use Rattle.fsw_c.specs.Args.{pairs_in}
use Rattle.fsw_c.specs.BusAnswers.{BusCall}
use Rattle.fsw_c.specs.BusCodes.{plain_code}
use Rattle.fsw_c.proofs.BusSteps.{called-plain, always}

over : (n : ℕ) → 8 < n → ltb 8 n ≡ true
over n more = grind (arith, nat_tests)

few-enough : (n : ℕ) → leb n 8 ≡ true → n ≤ 9
few-enough n few = grind (arith, nat_tests)

too-many : (n : ℕ) → leb n 8 ≡ false → 8 < n
too-many n many = grind (arith, nat_tests)

-- why so many filters are refused
abbrev refused_many : Plain → ℕ → Option Refusal
refused_many core app = refused_if (not (is_application core app)) NoApplication (Some TooLong)

many-refused : (core : Plain) (app : ℕ) (pairs : List (ℕ × ℕ)) → 8 < length pairs → unasked_register core app pairs ≡ refused_many core app
many-refused core app pairs more =
    ap (λ (b : Bool). refused_if (not (is_application core app)) NoApplication (refused_if b TooLong (option_or (unasked core app (Register pairs)) (refused_if (not (are_filters pairs)) SameFilter None)))) (over (length pairs) more)

never : {T : Type 0} (P : Type 0) (b : Bool) (r : Result T Refusal) → result_err r ≡ refused_if (not b) NoApplication (Some TooLong) → IfOk r (λ (x : T). P)
never P true (Ok x) is = absurd (cc (is))
never P false (Ok x) is = absurd (cc (is))
never P b (Err e) is = tt

module _ {T : Type 0} (old new : Option Core) (o n : Core) (app : ℕ) (filters : List FswFilter) (given : List (ℕ × ℕ)) (is : given ≡ pairs_in (take 9 filters)) (was : old ≡ Some o) (now : new ≡ Some n) (tables : n.tables ≡ o.tables) where
  pub registered : (r : Result T Refusal) (status : ℕ) → status ≡ plain_code r → result_err r ≡ unasked_register o.bus.core app given → OnErr r (n.bus ≡ o.bus) →
      IfOk r (λ (x : T). Acts o.bus.core n.bus.core app (Register given) Done) → n.bus.bags ≡ o.bus.bags →
      BusCall old new app (Register (pairs_in filters)) (λ bus. unasked_register bus.core app (pairs_in filters)) status
  registered r status code why nothing does bags = by_count (leb (length filters) 8) refl
    where
      by_count : (few : Bool) → leb (length filters) 8 ≡ few → BusCall old new app (Register (pairs_in filters)) (λ bus. unasked_register bus.core app (pairs_in filters)) status
      by_count true few =
          let same : given ≡ pairs_in filters = is ∙ ap pairs_in (take_all 9 filters (few-enough (length filters) few)) in
          subst (λ (pairs : List (ℕ × ℕ)). BusCall old new app (Register pairs) (λ bus. unasked_register bus.core app pairs) status) same
          (called-plain old new o n app (Register given) (λ bus. unasked_register bus.core app given) was now tables Done refl r status code why nothing does (always r bags))
      by_count false many =
          let more : 8 < length filters = too-many (length filters) many in
          let nine : length given ≡ 9 = ap length is ∙ length-map {B = ℕ × ℕ} (take 9 filters) (λ (filter : FswFilter). (filter.id, filter.mask)) ∙ length-take-le 9 filters (omega (arith, more)) in
          let refused : result_err r ≡ refused_many o.bus.core app = why ∙ many-refused o.bus.core app given (omega (arith, nine)) in
          let all : 8 < length (pairs_in filters) = omega (arith, more, length-map {B = ℕ × ℕ} filters (λ (filter : FswFilter). (filter.id, filter.mask))) in
          called-plain old new o n app (Register (pairs_in filters)) (λ bus. unasked_register bus.core app (pairs_in filters)) was now tables Done refl r status code
          (refused ∙ sym (many-refused o.bus.core app (pairs_in filters) all)) nothing (never _ (is_application o.bus.core app) r refused) (always r bags)
