-- The answers of the calls, as entries of a history have them.
use Rattle.std.specs.Prelude.{ℕ, ◌==◌, if◌then◌else◌, Result, Ok, Err}
use Rattle.tbl_words.specs.declared.statuses.TblStatus.{TblStatus}
use Rattle.tbl_words.specs.declared.calls.Registered.{Registered}
use Rattle.tbl_words.specs.declared.calls.Registered.TheVariants.{New, Duplicate}
use Rattle.tbl_words.specs.declared.calls.Address.{Address}
use Rattle.tbl_words.specs.declared.calls.Told.{Told}
use Rattle.tbl_words.specs.declared.calls.Told.TheVariants.{Same, Updated, NeverLoaded}
use Rattle.tbl_words.specs.declared.calls.TblState.{TblState}
use Rattle.tbl_words.specs.declared.calls.TblAnswer.{TblAnswer}
use Rattle.tbl_words.specs.declared.calls.TblAnswer.TheVariants as answers
use Rattle.table_core.specs.declared.answers.PlainAddress.{PlainAddress}
use Rattle.table_core.specs.declared.answers.PlainState.{PlainState}

-- the owner's handle of a new table or of the one there is, or the refusal
abbrev pub registered : Result Registered TblStatus → TblAnswer
registered (Ok (New number)) = answers.Number number
registered (Ok (Duplicate number)) = answers.Duplicate number
registered (Err status) = answers.Refused status

-- the number of a new handle, or the refusal
abbrev pub shared : Result ℕ TblStatus → TblAnswer
shared (Ok number) = answers.Number number
shared (Err status) = answers.Refused status

-- the figures of a table, or the refusal
abbrev pub figures_told : Result TblState TblStatus → TblAnswer
figures_told (Ok figures) = answers.State figures
figures_told (Err status) = answers.Refused status

-- the same of figures whose version has 64 bits
abbrev pub state_of : PlainState → TblState
state_of figures =
    record {
      version = figures.version;
      loaded = figures.loaded;
      staged = figures.staged;
      holds = figures.holds;
    }

abbrev pub plain_figures_told : Result PlainState TblStatus → TblAnswer
plain_figures_told (Ok figures) = answers.State (state_of figures)
plain_figures_told (Err status) = answers.Refused status

-- the address of a table, or the refusal
abbrev pub addressed : Result Address TblStatus → TblAnswer
addressed (Ok address) = answers.Address address.told address.version
addressed (Err status) = answers.Refused status

-- the same of an address whose version has 64 bits
abbrev pub plain_addressed : Result PlainAddress TblStatus → TblAnswer
plain_addressed (Ok address) = answers.Address address.told address.version
plain_addressed (Err status) = answers.Refused status

-- what an address is told with, by the version before and now: that there was no load, or whether
-- one came
abbrev pub told_by : ℕ → ℕ → Told
told_by before version =
    if version == 0 then NeverLoaded else if before == version then Same else Updated

-- done, or the refusal
abbrev pub done : Result (Unit {0}) TblStatus → TblAnswer
done (Ok nothing) = answers.Done
done (Err status) = answers.Refused status
