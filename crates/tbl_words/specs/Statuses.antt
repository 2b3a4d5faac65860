-- The names that reports print for refusals.
use Rattle.std.specs.Prelude.{ℕ, List, codes}
use Rattle.tbl_words.specs.declared.statuses.TblStatus.{TblStatus}
use Rattle.tbl_words.specs.declared.statuses.TblStatus.TheVariants.{ErrInvalidHandle, ErrInvalidName, ErrInvalidSize, ErrInvalidOptions, ErrDuplicateNotOwned, ErrDuplicateDiffSize, ErrRegistryFull, ErrHandlesFull, ErrNoAccess, ErrUnregistered, ErrDumpOnly, ErrFileTooLarge, ErrPartialLoad, ErrLoadInProgress, ErrNoBufferAvail, InfoTableLocked, InfoNoUpdatePending, ErrMemBlockSize, NoLoad, NotValidated, Validation}

abbrev pub tbl_name : TblStatus → List ℕ
tbl_name ErrInvalidHandle = codes "CFE_TBL_ERR_INVALID_HANDLE"
tbl_name ErrInvalidName = codes "CFE_TBL_ERR_INVALID_NAME"
tbl_name ErrInvalidSize = codes "CFE_TBL_ERR_INVALID_SIZE"
tbl_name ErrInvalidOptions = codes "CFE_TBL_ERR_INVALID_OPTIONS"
tbl_name ErrDuplicateNotOwned = codes "CFE_TBL_ERR_DUPLICATE_NOT_OWNED"
tbl_name ErrDuplicateDiffSize = codes "CFE_TBL_ERR_DUPLICATE_DIFF_SIZE"
tbl_name ErrRegistryFull = codes "CFE_TBL_ERR_REGISTRY_FULL"
tbl_name ErrHandlesFull = codes "CFE_TBL_ERR_HANDLES_FULL"
tbl_name ErrNoAccess = codes "CFE_TBL_ERR_NO_ACCESS"
tbl_name ErrUnregistered = codes "CFE_TBL_ERR_UNREGISTERED"
tbl_name ErrDumpOnly = codes "CFE_TBL_ERR_DUMP_ONLY"
tbl_name ErrFileTooLarge = codes "CFE_TBL_ERR_FILE_TOO_LARGE"
tbl_name ErrPartialLoad = codes "CFE_TBL_ERR_PARTIAL_LOAD"
tbl_name ErrLoadInProgress = codes "CFE_TBL_ERR_LOAD_IN_PROGRESS"
tbl_name ErrNoBufferAvail = codes "CFE_TBL_ERR_NO_BUFFER_AVAIL"
tbl_name InfoTableLocked = codes "CFE_TBL_INFO_TABLE_LOCKED"
tbl_name InfoNoUpdatePending = codes "CFE_TBL_INFO_NO_UPDATE_PENDING"
tbl_name ErrMemBlockSize = codes "CFE_ES_ERR_MEM_BLOCK_SIZE"
tbl_name NoLoad = codes "NO_LOAD"
tbl_name NotValidated = codes "NOT_VALIDATED"
tbl_name (Validation rule) = codes "VALIDATION_FAILED"
