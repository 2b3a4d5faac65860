-- A source and a sink in memory, before and after each call.
use Rattle.std.specs.Prelude.{ℕ, ◌+◌, ◌-◌, ◌^◌, ◌==◌, ◌||◌, min, Bool, List, ◌++◌, length, take, drop, if◌then◌else◌}
use Rattle.std.specs.List.{list_any}
use Rattle.fsw_base.specs.declared.outside.ReadAnswer.{ReadAnswer}
use Rattle.fsw_base.specs.declared.outside.ReadAnswer.TheVariants.{Got, End, Failed}
use Rattle.fsw_base.specs.declared.outside.WriteAnswer.{WriteAnswer}
use Rattle.fsw_base.specs.declared.outside.WriteAnswer.TheVariants as writes

-- a source: its bytes left, the most that a read gives, the calls that fail, calls and failures so
-- far
pub record Supply : Type 0 where
  pub left : List ℕ
  pub piece : ℕ
  pub fails : List ℕ
  pub calls : ℕ
  pub faults : ℕ

-- a sink: the bytes written, the room left, the most that a write takes, the calls that fail, calls
-- and failures so far
pub record Store : Type 0 where
  pub written : List ℕ
  pub room : ℕ
  pub piece : ℕ
  pub fails : List ℕ
  pub calls : ℕ
  pub faults : ℕ

-- one more, short of the last value of a count
abbrev pub one_more : ℕ → ℕ
one_more n = min (n + 1) (2 ^ 64 - 1)

-- whether the list has this number
abbrev pub is_listed : ℕ → List ℕ → Bool
is_listed call fails = list_any (λ fail. fail == call) fails

-- a listed call fails; else it gives as much as a piece, the buffer and the bytes left allow
abbrev pub read_answer : Supply → ℕ → ReadAnswer
read_answer s room =
    if is_listed (one_more s.calls) s.fails then Failed
    else (if min s.piece (min room (length s.left)) == 0 then End
    else (Got (min s.piece (min room (length s.left)))))

-- what a read leaves
abbrev pub after_read : Supply → ℕ → Supply
after_read s room =
    if is_listed (one_more s.calls) s.fails
    then record s { calls = one_more s.calls; faults = one_more s.faults }
    else (record s
    { calls = one_more s.calls; left = drop (min s.piece (min room (length s.left))) s.left })

-- a listed call and one that finds no room fail; else it takes as much as a piece, the bytes given
-- and the room allow
abbrev pub write_answer : Store → ℕ → WriteAnswer
write_answer s given =
    if is_listed (one_more s.calls) s.fails || (min s.piece (min given s.room) == 0)
    then writes.Failed
    else (writes.Took (min s.piece (min given s.room)))

-- what a write leaves
abbrev pub after_write : Store → List ℕ → Store
after_write s bytes =
    if is_listed (one_more s.calls) s.fails || (min s.piece (min (length bytes) s.room) == 0)
    then record s { calls = one_more s.calls; faults = one_more s.faults }
    else (record s {
      calls = one_more s.calls;
      written = s.written ++ take (min s.piece (min (length bytes) s.room)) bytes;
      room = s.room - min s.piece (min (length bytes) s.room);
    })
