-- A sink and a source behind guards, through which nothing is asked of them once a call has failed.
use base.Fml.{GName}
use Rattle.std.specs.Prelude.{ℕ, Bool, true, false, List, Option}
use Rattle.fsw_base.specs.declared.outside.ReadAnswer.{ReadAnswer}
use Rattle.fsw_base.specs.declared.outside.ReadAnswer.TheVariants.{Got, End, Failed}
use Rattle.fsw_base.specs.declared.outside.WriteAnswer.{WriteAnswer}
use Rattle.fsw_base.specs.declared.outside.WriteAnswer.TheVariants as writes

-- A sink behind a guard: which sink it is, the bytes written, if it shows them, and the count of
-- its faults; whether a write through the guard has failed, and whether none was made so far.
pub record GuardedSink : Type 0 where
  pub sink : GName
  pub written : Option (List ℕ)
  pub faults : ℕ
  pub failed : Bool
  pub untouched : Bool

-- A source behind a guard: which source it is, the bytes left, if it shows them, and the count of
-- its faults; whether a read through the guard has failed.
pub record GuardedSource : Type 0 where
  pub source : GName
  pub left : Option (List ℕ)
  pub faults : ℕ
  pub failed : Bool

-- whether it answers that the write failed
abbrev pub is_failed_write : WriteAnswer → Bool
is_failed_write (writes.Took n) = false
is_failed_write writes.Failed = true

-- whether it answers that the read failed
abbrev pub is_failed_read : ReadAnswer → Bool
is_failed_read (Got n) = false
is_failed_read End = false
is_failed_read Failed = true
