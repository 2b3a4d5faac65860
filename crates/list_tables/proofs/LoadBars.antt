-- What bars a load bars it whatever is asked behind it.
use Rattle.std.proofs.Common.{◌≡◌, Bool, true, false, Option, Some, None}
use Rattle.tbl_words.specs.declared.statuses.TblStatus.{TblStatus}
use Rattle.tbl_words.specs.declared.statuses.TblStatus.TheVariants.{ErrDumpOnly, ErrFileTooLarge, ErrPartialLoad, ErrLoadInProgress, ErrNoBufferAvail, InfoTableLocked}
use Rattle.tbl_words.specs.Machine.{Bars, barred_cause, refused_if}

refused_more : (test : Bool) (status why : TblStatus) (one other : Option TblStatus) → (one ≡ Some why → other ≡ Some why) → refused_if test status one ≡ Some why →
    refused_if test status other ≡ Some why
refused_more true status why one other goes_on is = is
refused_more false status why one other goes_on is = goes_on is

pub barred_more : (bars : Bars) (others : Option TblStatus) (why : TblStatus) → barred_cause bars None ≡ Some why → barred_cause bars others ≡ Some why
barred_more bars others why =
    refused_more bars.dump_only ErrDumpOnly why _ _
    (refused_more bars.past_end ErrFileTooLarge why _ _
    (refused_more bars.partial ErrPartialLoad why _ _
    (refused_more bars.in_progress ErrLoadInProgress why _ _
    (refused_more bars.held_apart InfoTableLocked why _ _
    (refused_more bars.no_buffer ErrNoBufferAvail why None others (λ is. absurd (cc is)))))))
