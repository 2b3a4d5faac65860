-- Calls that were answered straight by the core of the tables.
use Rattle.std.proofs.Common.{refl, inl}
use Rattle.tbl_words.specs.declared.calls.TblAnswer.{TblAnswer}
use Rattle.tbl_words.specs.declared.history.Call.{Call}
use Rattle.table_blocks.specs.Held.{HeldViews}
use Rattle.tbl_load.specs.Bags.{HasBag}
use Rattle.tbl_load.specs.Core.{Core, Does}
use Rattle.app_calls.specs.Callers.{Caller}
use Rattle.app_calls.specs.TableCallers.{TablesAnswer}

-- a call that was made with the bag, which has this in it now
pub table-answers-held : (caller : Caller) (tables : Core) (held : HeldViews) (call : Call) (answer : TblAnswer) → Does caller.tables tables caller.app call answer →
    HasBag tables caller.app held → TablesAnswer caller (record caller { tables = tables; held = held }) call answer
table-answers-held caller tables held call answer does bag = record {
  now = caller.tables;
  meets = inl refl;
  does = does;
  bag = bag;
  others = record { core = refl; bag = refl };
  same = record { app = refl; names = refl; alone = refl };
}
