-- What a port is answered, with its bag.
use Rattle.tbl_words.specs.declared.calls.TblAnswer.{TblAnswer}
use Rattle.tbl_words.specs.declared.history.Call.{Call}
use Rattle.tbl_words.specs.declared.history.Entry.{Entry}
use Rattle.table_blocks.specs.Held.{HeldViews}
use Rattle.tbl_load.specs.Bags.{HasBag}
use Rattle.tbl_load.specs.Core.{Core}
use Rattle.core_port.specs.Ports as ports
use Rattle.tbl_service.specs.Inside.{with_bag}
use Rattle.tbl_service.specs.Ports.{Answers}
use Rattle.tbl_service.specs.Words.{tables}

pub answered : (old new : ports.PortView Core Entry) (bag new_bag : HeldViews) → HasBag new.seen old.app new_bag → (call : Call) (answer : TblAnswer) → ports.Answers tables old new call answer →
    Answers (with_bag old bag) (with_bag new new_bag) call answer
answered old new bag new_bag has call answer a = record {
  between = a.between;
  others = a.others;
  does = a.does;
  mine = a.mine;
  bag = has;
  loans = a.sound.loans;
  lock = a.lock;
  app = a.app;
}
