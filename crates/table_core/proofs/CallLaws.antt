-- What a call leaves: the fields stand for what the machine leaves.
use Rattle.std.proofs.Common.{◌≡◌, ◌≢◌, ℕ, true, Option, Some, refl, ap, sym, subst}
use Rattle.fsw_base.specs.Limits.{Limits, limits_of}
use Rattle.tbl_words.specs.declared.statuses.TblStatus.{TblStatus}
use Rattle.tbl_words.specs.declared.calls.TblAnswer.{TblAnswer}
use Rattle.tbl_words.specs.declared.calls.TblAnswer.TheVariants.{Refused}
use Rattle.tbl_words.specs.declared.history.Call.{Call}
use Rattle.tbl_words.specs.Tables.{State}
use Rattle.tbl_words.specs.Machine.{cause, outcome, step}
use Rattle.table_blocks.specs.Held.{HeldViews}
use Rattle.table_core.specs.declared.plain.PlainTables.TheInside.{Inside}
use Rattle.table_core.specs.Core.{Plain, Holds, Acts, changes_bag}
use Rattle.table_core.specs.Inside.{plain_of, means}

-- what is told of the core is told of the fields
pub at_fields : (a : Inside) (now : Plain) → plain_of a ≡ now → (F : Limits → State → Option TblStatus) (why : Option TblStatus) → why ≡ F now.limits now.state → F (limits_of a.config) (means a) ≡ why
at_fields a now is F why there = let P : Plain → Type 0 = λ o. F o.limits o.state ≡ why in subst P (sym is) (sym there)

-- and the other way round
pub at_core : (a : Inside) (now : Plain) → plain_of a ≡ now → (F : Limits → State → Option TblStatus) (why : Option TblStatus) → F (limits_of a.config) (means a) ≡ why → why ≡ F now.limits now.state
at_core a now is F why here = let P : Plain → Type 0 = λ o. why ≡ F o.limits o.state in subst P is (sym here)

-- a call whose cause is known
pub step_by : (limits : Limits) (s : State) (app : ℕ) (call : Call) (why : Option TblStatus) → cause limits s app call ≡ why → step limits s app call ≡ outcome limits s app call why
step_by limits s app call why is = ap (outcome limits s app call) is

-- the call does what the machine does
pub acts_from : (a b : Inside) (old : Plain) (app : ℕ) (call : Call) (answer : TblAnswer) → plain_of a ≡ old → limits_of b.config ≡ limits_of a.config →
    step (limits_of a.config) (means a) app call ≡ (answer, means b) → ((other : ℕ) (bag : HeldViews) → (changes_bag call ≡ true → other ≢ app) → Holds (plain_of a) other bag → Holds (plain_of b) other bag) →
    Acts old (plain_of b) app call answer
acts_from a b old app call answer is limits made bags =
    let P : Plain → Type 0 = λ o. Acts o (plain_of b) app call answer in
    subst P is (record { made = made; limits = limits; bags = bags })

-- if nothing changes
pub acts_still : (a : Inside) (old : Plain) (app : ℕ) (call : Call) (answer : TblAnswer) → plain_of a ≡ old →
    step (limits_of a.config) (means a) app call ≡ (answer, means a) → Acts old old app call answer
acts_still a old app call answer is made =
    let P : Plain → Type 0 = λ o. Acts old o app call answer in
    subst P is (acts_from a a old app call answer is refl made (λ other bag apart holds. holds))

-- if the call is refused
pub acts_refused : (a : Inside) (old : Plain) (app : ℕ) (call : Call) (status : TblStatus) → plain_of a ≡ old →
    cause (limits_of a.config) (means a) app call ≡ Some status → Acts old old app call (Refused status)
acts_refused a old app call status is why = acts_still a old app call (Refused status) is (step_by (limits_of a.config) (means a) app call (Some status) why)
