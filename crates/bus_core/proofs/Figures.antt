-- The figures of the bus, and the housekeeping packet.
use Rattle.std.proofs.Common.{◌≡◌, ℕ, true, List, refl, ap, sym, ◌∙◌, subst}
use Rattle.fsw_base.specs.declared.config.BusStats.{BusStats}
use Rattle.housekeeping.specs.declared.in_use.InUse.{InUse}
use Rattle.housekeeping.specs.Counters.{count_of}
use Rattle.housekeeping.specs.declared.names.CounterName.TheVariants.{Nosub, Limit, Overflow}
use Rattle.housekeeping.specs.Packet.{housekeeping_packet}
use Rattle.housekeeping.specs.Statistics.{Statistics}
use Rattle.bus_words.specs.declared.calls.BusAnswer.{BusAnswer}
use Rattle.bus_words.specs.declared.calls.BusAnswer.TheVariants.{Bus}
use Rattle.bus_words.specs.declared.history.Call.TheVariants.{Transmit, Housekeeping, Figures}
use Rattle.bus_words.specs.Held.{in_use}
use Rattle.bus_words.specs.Counters.{stats_in}
use Rattle.bus_words.specs.Machine.{packet_in}
use Rattle.bus_words.specs.Acts.{act}
use Rattle.bus_words.proofs.Statistics.{tells_as_sends}
use Rattle.bus_core.specs.declared.plain.PlainBus.TheInside.{Inside}
use Rattle.bus_core.specs.Core.{Plain, Acts}
use Rattle.bus_core.specs.Inside.{plain_of, Keeps}
use Rattle.bus_core.proofs.CallLaws.{acts_still}

module _ (a : Inside) (old : Plain) (viewed : plain_of a ≡ old) (now : InUse) (looked : now ≡ in_use old.limits old.whole.bus) where
  -- the figures, by the counters and what is in use
  abbrev figures : ℕ → ℕ → ℕ → InUse → BusStats
  figures nosub limit overflow used = record { nosub = nosub; limit = limit; overflow = overflow; buffers = used.buffers; bytes = used.bytes }

  pub figures_acts : (app : ℕ) (counters : Statistics) (nosub limit overflow : ℕ) → Keeps a → counters ≡ a.records.statistics →
      nosub ≡ count_of counters.counts Nosub → limit ≡ count_of counters.counts Limit → overflow ≡ count_of counters.counts Overflow →
      Acts old old app Figures (Bus (figures nosub limit overflow now))
  figures_acts app counters nosub limit overflow keeps are first second third =
      let P : Plain → Type 0 = λ o. Acts o o app Figures (Bus (stats_in o.limits o.whole.bus)) in
      let is : figures nosub limit overflow now ≡ stats_in old.limits old.whole.bus =
      ap (λ n. figures n limit overflow now) first
      ∙ ap (λ n. figures counters.counts.nosub n overflow now) second
      ∙ ap (λ n. figures counters.counts.nosub counters.counts.limit n now) third
      ∙ ap (λ (s : Statistics). figures s.counts.nosub s.counts.limit s.counts.overflow now) (are ∙ ap (λ (o : Plain). o.whole.bus.statistics) viewed)
      ∙ ap (figures old.whole.bus.statistics.counts.nosub old.whole.bus.statistics.counts.limit old.whole.bus.statistics.counts.overflow) looked in
      subst (λ f. Acts old old app Figures (Bus f)) (sym is)
      (subst P viewed (acts_still a (plain_of a) app Figures (Bus (stats_in (plain_of a).limits (plain_of a).whole.bus)) refl keeps refl refl refl refl))

  -- the packet is the one of the bus
  pub packet_is : (packet : List ℕ) → packet ≡ housekeeping_packet a.records.statistics.counts now → packet ≡ packet_in old.limits old.whole.bus
  packet_is packet written =
      written
      ∙ ap (λ (o : Plain). housekeeping_packet o.whole.bus.statistics.counts now) viewed
      ∙ ap (housekeeping_packet old.whole.bus.statistics.counts) looked

-- what its send leaves
pub housekeeping_acts : (old new : Plain) (app : ℕ) (packet : List ℕ) (answer : BusAnswer) → packet ≡ packet_in old.limits old.whole.bus → Acts old new app (Transmit packet true) answer → Acts old new app Housekeeping answer
housekeeping_acts old new app packet answer is acts = record {
  made = tells_as_sends old.limits old.whole app ∙ ap (λ p. act old.limits old.whole app (Transmit p true)) (sym is) ∙ acts.made;
  limits = acts.limits;
}
