-- The blocks of the core are those of the history, since the loans of last messages and the descriptors of unsent
-- buffers are those that were noted.
use Rattle.std.proofs.Common.{is_some, ap, ◌∙◌, subst}
use Rattle.buf_desc.specs.Desk.{Buffers}
use Rattle.buf_desc.specs.Slots.{slot_at, number_in}
use Rattle.bus_words.specs.Bus.{State}
use Rattle.es_pool.specs.Pool.{PoolState}
use Rattle.bus_messages.specs.Blocks.{AreBlocks, IsBlockPool}
use Rattle.sb_calls.specs.declared.journalled.BusCore.TheInside.{Inside}
use Rattle.sb_calls.specs.Bags.{loans_of, descs_of}
use Rattle.sb_calls.specs.Core.{state_of}
use Rattle.sb_calls.specs.Inside.{core_of, Stands}
use Rattle.sb_calls.proofs.CoreBags.{loan_is, desc_is}
use Rattle.sb_calls.proofs.EntryLemma.{bus_is}

pub blocks_over : (a : Inside) (b : Buffers) → Stands a → AreBlocks b a.core.whole.bus.pipes a.core.loans a.core.whole.bus.unsent a.core.descs →
    AreBlocks b (state_of (core_of a)).pipes (loans_of (core_of a)) (state_of (core_of a)).unsent (descs_of (core_of a))
blocks_over a b stands are = subst (λ (s : State). AreBlocks b s.pipes (loans_of (core_of a)) s.unsent (descs_of (core_of a))) (bus_is a stands) lent
  where
    lent : AreBlocks b a.core.whole.bus.pipes (loans_of (core_of a)) a.core.whole.bus.unsent (descs_of (core_of a))
    lent = record {
      each_sealed = λ desc sealed.
          let one = are.each_sealed desc sealed in
          record {
            named = one.named;
            size = one.size;
            asked = one.asked;
            bytes = one.bytes;
            uses = one.uses;
            views = one.views;
            loan = λ pipe item is same. loan_is a stands pipe (ap (λ l. is_some l) is) ∙ one.loan pipe item is same;
          };
      each_unsent = λ desc unsent.
          let one = are.each_unsent desc unsent in
          record {
            of_buffer = one.of_buffer;
            desc_told = desc_is a stands (number_in (slot_at b.slots desc)) one.of_buffer ∙ one.desc_told;
            asked = one.asked;
            size = one.size;
          };
      all_sends = are.all_sends;
      all_buffers = are.all_buffers;
      one = are.one;
    }

pub pool_over : (a : Inside) (p : PoolState) → Stands a → IsBlockPool p a.core.whole.bus.pipes a.core.loans a.core.whole.bus.unsent a.core.descs →
    IsBlockPool p (state_of (core_of a)).pipes (loans_of (core_of a)) (state_of (core_of a)).unsent (descs_of (core_of a))
pool_over a p stands of = record { buffers = of.buffers; are = blocks_over a of.buffers stands of.are; is = of.is; live = of.live }
