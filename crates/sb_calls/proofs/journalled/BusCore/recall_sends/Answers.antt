use Rattle.std.proofs.Common.{AllPairs, subst}
use Rattle.std.specs.List.{All}
use Rattle.bus_messages.specs.Blocks.{IsGiven, AreOfOneSend}
use Rattle.bus_words.specs.Bus.{Item, State}
use Rattle.bus_words.specs.Held.{items_of}
use Rattle.sb_calls.specs.Core.{Core, state_of}
use Rattle.sb_calls.proofs.EntryLemma.{bus_is}
use Rattle.sb_calls.proofs.journalled.BusCore.recall_sends.Goals as goal

pub returns-clause-given : goal.returns-clause-given
returns-clause-given c =
    let P : State → Type 0 = λ s. All (λ (i : Item). IsGiven s.numbers_given i.number) (items_of s.pipes) in
    subst (λ (core : Core). P (state_of core)) c.self.view_is (subst P (bus_is c.self.inside c.self.invariant) c.recall_sends.ensures.given)

pub returns-clause-alike : goal.returns-clause-alike
returns-clause-alike c =
    let P : State → Type 0 = λ s. AllPairs AreOfOneSend (items_of s.pipes) in
    subst (λ (core : Core). P (state_of core)) c.self.view_is (subst P (bus_is c.self.inside c.self.invariant) c.recall_sends.ensures.alike)
