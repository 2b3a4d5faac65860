-- No call changes how many applications the tables serve.
use Rattle.std.proofs.Common.{◌≡◌, ℕ, ◌+◌, ◌-◌, ◌<◌, ◌≤◌, ◌^◌, ◌⊎◌, inl, inr, Bool, true, List, length, Option, Some, None, refl, ap, sym, ◌∙◌, arith}
use Rattle.std.specs.Prelude.{IfSome}
use Rattle.std.proofs.lemmas.Bool.{cases_lt}
use Rattle.std.proofs.lemmas.List.{length-set}
use Rattle.fsw_base.specs.Limits.{Limits}
use Rattle.tbl_words.specs.declared.calls.TblAnswer.{TblAnswer}
use Rattle.tbl_words.specs.declared.history.Call.{Call}
use Rattle.tbl_words.specs.declared.history.Call.TheVariants.{Register, Share, Unregister, Stage, Validate, Update, Abort, Load, GetAddress, ReleaseAddress, Status, End}
use Rattle.tbl_words.specs.Tables.{State, Table, table_of}
use Rattle.tbl_words.specs.Machine.{step}
use Rattle.tbl_words.proofs.Ends.{ended_by, ended-step}
use Rattle.table_core.specs.Core.{Plain, Acts, HasNextVersion}
use Rattle.checked_tables.specs.Box.{apps_in}

-- an application that ends keeps its place
length-ended_by : (app : ℕ) (call : Call) (ended : List Bool) → length (ended_by app call ended) ≡ length ended
length-ended_by app (Register name size option rules) ended = refl
length-ended_by app (Share name) ended = refl
length-ended_by app (Unregister handle) ended = refl
length-ended_by app (Stage handle offset bytes) ended = refl
length-ended_by app (Validate handle) ended = refl
length-ended_by app (Update handle) ended = refl
length-ended_by app (Abort handle) ended = refl
length-ended_by app (Load handle offset bytes) ended = refl
length-ended_by app (GetAddress handle) ended = refl
length-ended_by app (ReleaseAddress handle) ended = refl
length-ended_by app (Status handle) ended = refl
length-ended_by app End ended = length-set ended (app - 1) true

applications_stay : (limits : Limits) (s : State) (app : ℕ) (call : Call) → length ((step limits s app call).1).ended ≡ length s.ended
applications_stay limits s app call = ap (length {A = Bool}) (ended-step limits s app call) ∙ length-ended_by app call s.ended

pub apps-acts : (old new : Plain) (app : ℕ) (call : Call) (answer : TblAnswer) → Acts old new app call answer → apps_in new ≡ apps_in old
apps-acts old new app call answer acts =
    sym (ap (λ (made : TblAnswer × State). length {A = Bool} made.1.ended) acts.made) ∙ applications_stay old.limits old.state app call

-- a number is left for a version more, or none is
pub next-or-none : (s : State) (handle : ℕ) → HasNextVersion s handle ⊎ (HasNextVersion s handle → ⊥)
next-or-none s handle = by_table (table_of s handle)
  where
    by_table : (found : Option Table) → IfSome found (λ t. t.version + 1 < 2 ^ 64) ⊎ (IfSome found (λ t. t.version + 1 < 2 ^ 64) → ⊥)
    by_table None = inl tt
    by_table (Some t) = by_version (cases_lt (t.version + 1) (2 ^ 64))
      where
        by_version : (t.version + 1 < 2 ^ 64) ⊎ (2 ^ 64 ≤ t.version + 1) → (t.version + 1 < 2 ^ 64) ⊎ (t.version + 1 < 2 ^ 64 → ⊥)
        by_version (inl below) = inl below
        by_version (inr past) = inr (λ below. omega (arith, past, below))
