-- The status of a look at the tables, and what it shows.
use Rattle.std.proofs.Common.{◌≡◌, ℕ, List, Option, Some, None, Result, Ok, Err, ap, sym, ◌∙◌}
use Rattle.std.specs.Prelude.{IfOk, IsSomeAnd}
use Rattle.std.specs.Option.{option_map, option_map_or, option_and_then}
use Rattle.std.specs.Result.{result_err}
use Rattle.tbl_words.specs.declared.statuses.TblStatus.{TblStatus}
use Rattle.tbl_words.specs.Tables.{Table, Staged}
use Rattle.checked_tables.specs.declared.refusal.Refusal.{Refusal}
use Rattle.fsw_core.specs.declared.Core.{Core}
use Rattle.fsw_c.specs.TableCodes.{tbl_code, unasked_table_code, table_call_code}

pub look-code : {T : Type 0} (r : Result (Result T TblStatus) Refusal) (unasked : Option Refusal) (refused : Option TblStatus) → result_err r ≡ unasked → IfOk r (λ (answer : Result T TblStatus). result_err answer ≡ refused) →
    table_call_code r ≡ option_map_or unasked_table_code unasked (option_map_or tbl_code refused 0)
look-code (Err why) unasked refused is was = ap (λ (u : Option Refusal). option_map_or unasked_table_code u (option_map_or tbl_code refused 0)) is
look-code (Ok (Err status)) unasked refused is was =
    ap (λ (s : Option TblStatus). option_map_or tbl_code s 0) was ∙ ap (λ (u : Option Refusal). option_map_or unasked_table_code u (option_map_or tbl_code refused 0)) is
look-code (Ok (Ok x)) unasked refused is was =
    ap (λ (s : Option TblStatus). option_map_or tbl_code s 0) was ∙ ap (λ (u : Option Refusal). option_map_or unasked_table_code u (option_map_or tbl_code refused 0)) is

-- a table with this staged value
pub staged-is : (found : Option Table) (bytes : List ℕ) → IsSomeAnd found (λ (t : Table). option_map (λ (staged : Staged). staged.value) t.staged ≡ Some bytes) →
    option_and_then (λ (t : Table). option_map (λ (staged : Staged). staged.value) t.staged) found ≡ Some bytes
staged-is None bytes never = absurd never
staged-is (Some t) bytes is = is

-- the core behind an open handle
pub core-is : (old : Option Core) (o one : Core) → old ≡ Some o → old ≡ Some one → o ≡ one
core-is old o one is was = ap (λ (found : Option Core). option_map_or (λ (core : Core). core) found o) (sym is ∙ was)
