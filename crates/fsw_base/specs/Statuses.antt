-- The names that reports print for refusals.
use Rattle.std.specs.Prelude.{ℕ, List, codes}
use Rattle.fsw_base.specs.declared.statuses.SbStatus.{SbStatus}
use Rattle.fsw_base.specs.declared.statuses.SbStatus.TheVariants as sb
use Rattle.fsw_base.specs.declared.statuses.EsStatus.{EsStatus}
use Rattle.fsw_base.specs.declared.statuses.EsStatus.TheVariants as es
use Rattle.fsw_base.specs.declared.statuses.EvsStatus.{EvsStatus}
use Rattle.fsw_base.specs.declared.statuses.EvsStatus.TheVariants as evs

abbrev pub sb_name : SbStatus → List ℕ
sb_name sb.BadArgument = codes "CFE_SB_BAD_ARGUMENT"
sb_name sb.MaxPipesMet = codes "CFE_SB_MAX_PIPES_MET"
sb_name sb.PipeCrErr = codes "CFE_SB_PIPE_CR_ERR"
sb_name sb.MaxMsgsMet = codes "CFE_SB_MAX_MSGS_MET"
sb_name sb.MaxDestsMet = codes "CFE_SB_MAX_DESTS_MET"
sb_name sb.MsgTooBig = codes "CFE_SB_MSG_TOO_BIG"
sb_name sb.BufAlocErr = codes "CFE_SB_BUF_ALOC_ERR"
sb_name sb.NoMessage = codes "CFE_SB_NO_MESSAGE"
sb_name sb.BufferInvalid = codes "CFE_SB_BUFFER_INVALID"

abbrev pub es_name : EsStatus → List ℕ
es_name es.ErrMemBlockSize = codes "CFE_ES_ERR_MEM_BLOCK_SIZE"
es_name es.BufferNotInPool = codes "CFE_ES_BUFFER_NOT_IN_POOL"
es_name es.PoolBlockInvalid = codes "CFE_ES_POOL_BLOCK_INVALID"
es_name es.NoPool = codes "NO_SUCH_POOL"

abbrev pub evs_name : EvsStatus → List ℕ
evs_name evs.AppNotRegistered = codes "CFE_EVS_APP_NOT_REGISTERED"
evs_name evs.EvtNotRegistered = codes "CFE_EVS_EVT_NOT_REGISTERED"
