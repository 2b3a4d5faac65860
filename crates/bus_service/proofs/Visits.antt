-- What a port is answered, with its bag.
use Rattle.std.proofs.Common.{◌≡◌, ℕ, ◌≤◌, List, ◌++◌, refl, ap, ◌∙◌, subst}
use Rattle.lend_block.specs.Loan.{LentBytes}
use Rattle.buf_desc.specs.Held.{Holding}
use Rattle.bus_words.specs.declared.calls.BusAnswer.{BusAnswer}
use Rattle.bus_words.specs.declared.history.Call.{Call}
use Rattle.bus_words.specs.declared.history.Call.TheVariants.{Look}
use Rattle.bus_words.specs.declared.history.Entry.{Entry}
use Rattle.bus_words.specs.Bus.{standing_of, waited_on}
use Rattle.sb_calls.specs.declared.results.Pended.{Pended}
use Rattle.sb_calls.specs.declared.results.Pended.TheVariants as waits
use Rattle.sb_calls.specs.Answers.{waited, is_pending}
use Rattle.sb_calls.specs.Bags.{HasBag}
use Rattle.sb_calls.specs.Core.{Core, Looks, state_of}
use Rattle.core_port.specs.Ports as ports
use Rattle.bus_service.specs.Inside.{with_bag}
use Rattle.bus_service.specs.Ports.{Answers, AnswersLook, look_entries}
use Rattle.bus_service.specs.Words.{bus}
use Rattle.bus_service.proofs.OthersCalls.{standing_meanwhile}

module _ (old new : ports.PortView Core Entry) (bag new_bag : Holding LentBytes) (has : HasBag new.seen old.app new_bag) where
  pub answered : (call : Call) (answer : BusAnswer) → ports.Answers bus old new call answer → Answers (with_bag old bag) (with_bag new new_bag) call answer
  answered call answer a = record {
    between = a.between;
    others = a.others;
    does = a.does;
    mine = a.mine;
    bag = has;
    alone = a.sound.alone;
    loans = a.sound.loans;
    lock = a.lock;
    app = a.app;
  }

  abbrev pipe : ℕ
  pipe = waited_on (standing_of (state_of old.seen) old.app)

  pub answered_look : (told : Pended) → 1 ≤ old.app →
      ports.AnswersLook bus old new (λ s t. Looks s t old.app (waited_on (standing_of (state_of s) old.app)) told) (ports.look_entries bus old.app (Look pipe) (waited told) (is_pending told)) →
      AnswersLook (with_bag old bag) (with_bag new new_bag) pipe told
  answered_look told first a = record {
    between = a.between;
    others = a.others;
    does = subst (λ (n : ℕ). Looks a.between new.seen old.app n told) (ap waited_on (standing_meanwhile old.seen a.between old.app first a.others)) a.looks;
    mine = a.mine ∙ ap (λ (es : List Entry). old.mine ++ es) (same_entries told);
    bag = has;
    alone = a.sound.alone;
    loans = a.sound.loans;
    lock = a.lock;
    app = a.app;
  }
    where
      same_entries : (answer : Pended) → ports.look_entries bus old.app (Look pipe) (waited answer) (is_pending answer) ≡ look_entries old.app pipe answer
      same_entries (waits.Got number) = refl
      same_entries waits.TimeOut = refl
      same_entries waits.Pending = refl
