-- The bags of the core are those of the history, since the loans of last messages and the descriptors of unsent buffers are those
-- that were noted.
use Rattle.std.proofs.Common.{◌≡◌, ℕ, true, Some, is_some, ap, sym, ◌∙◌, subst}
use Rattle.lend_block.specs.Loan.{LentBytes}
use Rattle.buf_desc.specs.Held.{Holding}
use Rattle.bus_words.specs.Bus.{Item, State, owns, unsent_of}
use Rattle.bus_words.specs.Held.{is_unsent}
use Rattle.bus_words.proofs.Buffers.{unsent_here}
use Rattle.bus_messages.specs.Bag.{views_due}
use Rattle.bus_words.specs.Pipes.{last_on}
use Rattle.bus_messages.specs.Words.{loan_of, desc_of}
use Rattle.bus_core.specs.Bags as plain
use Rattle.sb_calls.specs.declared.journalled.BusCore.TheInside.{Inside}
use Rattle.sb_calls.specs.Bags.{HasBag, KeepsBags, AreOneLoan, loans_of, descs_of}
use Rattle.sb_calls.specs.Core.{Core, state_of}
use Rattle.sb_calls.specs.Inside.{core_of, Stands}
use Rattle.sb_calls.specs.Notes.{noted, noted_desc}
use Rattle.sb_calls.proofs.Holds.{holds-alike, last-live, loan_of-told, buffers-alike, desc_of-told}
use Rattle.sb_calls.proofs.EntryLemma.{bus_is}

-- the loan that was noted of a pipe is that of its last message
pub loan_is : (a : Inside) → Stands a → (pipe : ℕ) → is_some (last_on a.core.whole.bus.pipes pipe) ≡ true → loan_of (loans_of (core_of a)) pipe ≡ loan_of a.core.loans pipe
loan_is a stands pipe some =
    let some_there : is_some (last_on (state_of (core_of a)).pipes pipe) ≡ true = ap (λ (s : State). is_some (last_on s.pipes pipe)) (sym (bus_is a stands)) ∙ some in
    loan_of-told (λ n. noted n a.noted.log.entries a.noted.notes) (state_of (core_of a)).pipes pipe (last-live (state_of (core_of a)).pipes pipe some_there)
    ∙ sym (stands.loans pipe some)

-- the descriptor that was noted of an unsent buffer is that of its block
pub desc_is : (a : Inside) → Stands a → (number : ℕ) → is_unsent a.core.whole.bus.unsent number ≡ true → desc_of (descs_of (core_of a)) number ≡ desc_of a.core.descs number
desc_is a stands number is =
    desc_of-told (λ n. noted_desc n a.noted.log.entries a.noted.notes) (state_of (core_of a)).unsent number (ap (λ (s : State). is_unsent s.unsent number) (sym (bus_is a stands)) ∙ is)
    ∙ sym (stands.descs number is)

-- a bag of the history is one of the core
pub bag_in : (a : Inside) (old : Core) (app : ℕ) (bag : Holding LentBytes) → core_of a ≡ old → Stands a → HasBag old app bag → plain.HasBag a.core app bag
bag_in a old app bag is stands has_old = record {
  views =
      holds-alike (state_of (core_of a)).pipes a.core.whole.bus.pipes (loans_of (core_of a)) a.core.loans a.core.limits.pipes app bag (record {
        owned = λ pipe. ap (λ (s : State). owns s.pipes app pipe) (sym same);
        last = λ pipe own. ap (λ (s : State). last_on s.pipes pipe) (sym same);
        lent = λ pipe own some. sym (loan_is a stands pipe (ap (λ (s : State). is_some (last_on s.pipes pipe)) (sym same) ∙ some));
        counted = ap (λ (s : State). views_due s.pipes app) (sym same);
      }) has.views;
  buffers =
      buffers-alike (state_of (core_of a)).unsent a.core.whole.bus.unsent (descs_of (core_of a)) a.core.descs a.core.limits.sizes app bag (ap (λ (s : State). unsent_of s.unsent app) (sym same))
      (λ number there. sym (desc_is a stands number (ap (λ (s : State). is_unsent s.unsent number) (sym same) ∙ unsent_here (state_of (core_of a)).unsent app number there)))
      has.buffers;
}
  where
    same : state_of (core_of a) ≡ a.core.whole.bus
    same = sym (bus_is a stands)

    has : HasBag (core_of a) app bag
    has = subst (λ core. HasBag core app bag) (sym is) has_old

-- and the other way round
pub bag_out : (a : Inside) (app : ℕ) (bag : Holding LentBytes) → Stands a → plain.HasBag a.core app bag → HasBag (core_of a) app bag
bag_out a app bag stands has = record {
  views =
      holds-alike a.core.whole.bus.pipes (state_of (core_of a)).pipes a.core.loans (loans_of (core_of a)) a.core.limits.pipes app bag (record {
        owned = λ pipe. ap (λ (s : State). owns s.pipes app pipe) same;
        last = λ pipe own. ap (λ (s : State). last_on s.pipes pipe) same;
        lent = λ pipe own some. loan_is a stands pipe some;
        counted = ap (λ (s : State). views_due s.pipes app) same;
      }) has.views;
  buffers =
      buffers-alike a.core.whole.bus.unsent (state_of (core_of a)).unsent a.core.descs (descs_of (core_of a)) a.core.limits.sizes app bag (ap (λ (s : State). unsent_of s.unsent app) same)
      (λ number there. desc_is a stands number (unsent_here a.core.whole.bus.unsent app number there))
      has.buffers;
}
  where
    same : state_of (core_of a) ≡ a.core.whole.bus
    same = sym (bus_is a stands)

-- so what keeps the core's bags keeps those of the history
pub bags_over : (a next : Inside) (old : Core) → core_of a ≡ old → Stands a → Stands next → plain.KeepsBags a.core next.core → KeepsBags old (core_of next)
bags_over a next old is stands stands_next keeps app bag has = bag_out next app bag stands_next (keeps app bag (bag_in a old app bag is stands has))

-- pipes whose last messages are of one send have one loan noted, as the core's loans are one
pub one_loan : (a : Inside) → Stands a →
    ((pipe other : ℕ) (item its : Item) → last_on a.core.whole.bus.pipes pipe ≡ Some item → last_on a.core.whole.bus.pipes other ≡ Some its → item.number ≡ its.number →
    loan_of a.core.loans pipe ≡ loan_of a.core.loans other) →
    AreOneLoan (core_of a)
one_loan a stands told pipe other item its is also same =
    let here : last_on a.core.whole.bus.pipes pipe ≡ Some item = ap (λ (s : State). last_on s.pipes pipe) (bus_is a stands) ∙ is in
    let there : last_on a.core.whole.bus.pipes other ≡ Some its = ap (λ (s : State). last_on s.pipes other) (bus_is a stands) ∙ also in
    sym (stands.loans pipe (ap (λ l. is_some l) here)) ∙ told pipe other item its here there same ∙ stands.loans other (ap (λ l. is_some l) there)
