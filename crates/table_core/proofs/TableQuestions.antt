-- A call by a handle that asks its registered table.
use Rattle.std.proofs.Common.{◌≡◌, ℕ, Option, Some, None, Ok, Err, ap, ◌∙◌}
use Rattle.std.specs.Option.{unwrap_or}
use Rattle.fsw_base.specs.Limits.{limits_of}
use Rattle.tbl_words.specs.declared.statuses.TblStatus.{TblStatus}
use Rattle.tbl_words.specs.declared.statuses.TblStatus.TheVariants.{InfoTableLocked}
use Rattle.tbl_words.specs.declared.calls.TblAnswer.TheVariants.{Refused}
use Rattle.tbl_words.specs.declared.history.Call.{Call}
use Rattle.tbl_words.specs.Tables as state
use Rattle.tbl_words.specs.Machine.{cause, table_cause}
use Rattle.tbl_registry.specs.declared.rows.Handle.{Handle}
use Rattle.tbl_registry.specs.Listing.{Table, IsTied, is_registered}
use Rattle.table_blocks.specs.Contents.{content_at}
use Rattle.table_core.specs.declared.plain.PlainTables.TheInside.{Inside}
use Rattle.table_core.specs.Core.{Plain, Acts, answer_behind_last}
use Rattle.table_core.specs.Inside.{plain_of, means, table_with, Keeps}
use Rattle.table_core.specs.Refusals.{own_table}
use Rattle.table_core.proofs.CallLaws.{at_core, acts_refused}
use Rattle.table_core.proofs.Figures.{HasContent, has_content}
use Rattle.table_core.proofs.HandleCalls.{reaches, table_refused, table_asked}

-- what is kept for the table
pub own_content : (a : Inside) → Keeps a → IsTied a.registry → (app n : ℕ) (h : Handle) → own_table app n a.registry.handles ≡ Ok h → HasContent a h
own_content a keeps tied app n h is = has_content a keeps tied n h ((reaches a tied app n h is).own.found)

-- the table in the state
abbrev pub table_by : (a : Inside) (h : Handle) → Table → state.Table
table_by a h t = table_with (is_registered a.registry.handles t) t (content_at a.blocks.tables h.key)

module _ (a : Inside) (old : Plain) (viewed : plain_of a ≡ old) (tied : IsTied a.registry) (app n : ℕ) (call : Call) (others : state.Table → Option TblStatus)
    (asks : cause (limits_of a.config) (means a) app call ≡ table_cause (means a) app n others) where
  -- what it is answered if no number is left for a version more
  behind_last : (why : Option TblStatus) → cause (limits_of a.config) (means a) app call ≡ why → Refused (unwrap_or why InfoTableLocked) ≡ answer_behind_last old app call
  behind_last why is = ap (λ o. Refused (unwrap_or o InfoTableLocked)) (at_core a old viewed (λ limits s. cause limits s app call) why is)

  pub barred_behind_last : (status : TblStatus) → own_table app n a.registry.handles ≡ Err status → Refused status ≡ answer_behind_last old app call
  barred_behind_last status is = behind_last (Some status) (asks ∙ table_refused a tied app n status others is)

  pub call_barred : (status : TblStatus) → own_table app n a.registry.handles ≡ Err status → Acts old old app call (Refused status)
  call_barred status is = acts_refused a old app call status viewed (asks ∙ table_refused a tied app n status others is)

  module _ (h : Handle) (is : own_table app n a.registry.handles ≡ Ok h) (has : HasContent a h) where
    pub call_asked : cause (limits_of a.config) (means a) app call ≡ others (table_by a h has.t)
    call_asked =
        asks ∙ table_asked a tied app n h (reaches a tied app n h is) has.t has.there has.number others
        ∙ ap (λ key. others (table_with (is_registered a.registry.handles has.t) has.t (content_at a.blocks.tables key))) has.known

    pub call_refused : (status : TblStatus) → others (table_by a h has.t) ≡ Some status → Acts old old app call (Refused status)
    call_refused status why = acts_refused a old app call status viewed (call_asked ∙ why)

    pub refused_behind_last : (status : TblStatus) → others (table_by a h has.t) ≡ Some status → Refused status ≡ answer_behind_last old app call
    refused_behind_last status why = behind_last (Some status) (call_asked ∙ why)

    pub locked_behind_last : others (table_by a h has.t) ≡ None → Refused InfoTableLocked ≡ answer_behind_last old app call
    locked_behind_last none = behind_last None (call_asked ∙ none)
