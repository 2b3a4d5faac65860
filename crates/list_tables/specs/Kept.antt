-- What the machine of lists keeps of Table Services.
use Rattle.fsw_base.specs.Limits.{Limits}
use Rattle.tbl_words.specs.declared.calls.TblAnswer.{TblAnswer}
use Rattle.std.specs.Prelude.{ℕ, List}
use Rattle.tbl_words.specs.Tables.{State, with_table, all_marked}
use Rattle.tbl_words.specs.declared.history.Call.{Call}
use Rattle.tbl_words.specs.declared.history.Call.TheVariants.{Register, Share, GetAddress, Status}
use Rattle.tbl_words.specs.Machine.{accept, with_value}

-- the limits of the run, which never change, and the state of the tables
pub record Kept : Type 0 where
  pub limits : Limits
  pub state : State

-- what is kept once a call was so answered and left this state
abbrev pub leaves : Kept → TblAnswer × State → Kept
leaves kept made = record kept { state = made.1 }

-- what a call changes that is answered with no more than that it was done; nothing for the others
abbrev pub changed : Limits → State → ℕ → Call → State
changed limits s app (Register name size option rules) = s
changed limits s app (Share name) = s
changed limits s app (GetAddress handle) = s
changed limits s app (Status handle) = s
changed limits s app call = (accept limits s app call).1

-- the tables once the one of a number has this value, and all its handles are marked
abbrev pub updated : State → ℕ → List ℕ → State
updated s number value = record s {
  tables = with_table (with_value value) number s.tables;
  handles = all_marked number s.handles;
}
