pub mod CounterLemmas
pub mod PacketLemmas
pub mod PeakLemmas
