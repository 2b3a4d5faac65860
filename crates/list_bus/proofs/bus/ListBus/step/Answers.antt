use Rattle.std.proofs.Common.{sym, subst}
use Rattle.bus_words.specs.Entries.{call_of}
use Rattle.list_bus.specs.Played.{Played, IsPlayed}
use Rattle.list_bus.proofs.Plays.{played}
use Rattle.list_bus.proofs.bus.ListBus.step.Goals as goal

pub count-requires : goal.count-requires
count-requires c = subst (λ (p : Played). IsPlayed p) (sym c.change_desk.ensures) c.in_ok-decision.ensures.made.kept

pub returns : goal.returns
returns c =
    let made = c.in_ok-decision.decision in
    rw (c.count.ensures, c.deref-2.ensures.value, c.change_desk.ensures, c.deref.ensures.value)
    (played c.args.self.now c.decide.new.self c.args.app (call_of c.args.call.now) made.answer made.events.items c.in_ok-decision.ensures.made c.in_ok-decision.ensures.events)
