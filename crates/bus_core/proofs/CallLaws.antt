-- What a call leaves: the fields stand for what the machine leaves.
use Rattle.std.proofs.Common.{◌≡◌, ℕ, true, [], ◌∷◌, Option, Some, None, refl, ap, sym, ◌∙◌, subst, Vec, Global}
use Rattle.fsw_base.specs.Limits.{Limits, limits_of}
use Rattle.fsw_base.specs.declared.statuses.SbStatus.{SbStatus}
use Rattle.fsw_base.specs.Grants.{Pools}
use Rattle.housekeeping.specs.declared.names.CounterName.{CounterName}
use Rattle.housekeeping.specs.Peaks.{greater}
use Rattle.housekeeping.proofs.PeakLemmas.{greater-twice}
use Rattle.bus_words.specs.declared.calls.BusAnswer.{BusAnswer}
use Rattle.bus_words.specs.declared.calls.BusAnswer.TheVariants.{Sb}
use Rattle.bus_words.specs.declared.history.Call.{Call}
use Rattle.bus_words.specs.Counters.{refusal_counter}
use Rattle.bus_words.specs.Held.{in_use}
use Rattle.bus_words.specs.Refusals.{Refusal, OfBus}
use Rattle.bus_words.specs.Machine.{by_bus, cause, decided_with, accept_with, refused_state}
use Rattle.bus_words.specs.Acts.{Whole, completed, reads_in}
use Rattle.bus_words.proofs.EventDesks.{is_quiet, leaves_desk}
use Rattle.bus_counts.specs.Records.{Recordings, counter_ticked, peaks_raised}
use Rattle.bus_counts.proofs.Leaves.{recordings_of, left, acts_with, refused_left, quiet_left, still_left}
use Rattle.bus_messages.specs.Store.{Store}
use Rattle.bus_core.specs.declared.plain.PlainBus.TheInside.{Inside}
use Rattle.bus_core.specs.declared.activities.Activity.{Activity}
use Rattle.bus_core.specs.Core.{Plain, Acts, with_tick}
use Rattle.bus_core.specs.Inside.{plain_of, means, IsPoolOf, AreInOrder, IsCovered, Keeps}
use Rattle.bus_core.specs.Rows.{in_use_at}
use Rattle.bus_core.proofs.Accounts.{IsHeld, in_use_is}

-- But for what is recorded. --

-- what a call answers and leaves, but for what is recorded of it
abbrev pub bare : Limits → Whole → ℕ → Call → BusAnswer × Whole
bare limits w app call = completed limits w call (decided_with (reads_in w) limits w.bus app call (cause limits w.bus app call))

-- of a call whose cause is known
pub bare_by : (limits : Limits) (w : Whole) (app : ℕ) (call : Call) (why : Option Refusal) → cause limits w.bus app call ≡ why →
    bare limits w app call ≡ completed limits w call (decided_with (reads_in w) limits w.bus app call why)
bare_by limits w app call why is = ap (λ o. completed limits w call (decided_with (reads_in w) limits w.bus app call o)) is

-- of a call that isn't refused
pub accepted_by : (limits : Limits) (w : Whole) (app : ℕ) (call : Call) (why : Option SbStatus) → cause limits w.bus app call ≡ by_bus why → why ≡ None →
    bare limits w app call ≡ completed limits w call (accept_with (reads_in w) limits w.bus app call)
accepted_by limits w app call why here none = bare_by limits w app call None (here ∙ ap by_bus none)

-- With what is recorded. --

-- what is left of the records by a call that is answered so and leaves this
abbrev pub left_at : Inside → ℕ → Call → BusAnswer → Whole → Recordings
left_at a app call answer w = left (limits_of a.config) (means a).bus app call answer w.bus

module _ (a : Inside) (store : Store) (acts : Vec Activity Global) (pools : Pools) (old : Plain) (app : ℕ) (call : Call) (answer : BusAnswer) (viewed : plain_of a ≡ old)
    (made : bare (limits_of a.config) (means a) app call ≡ (answer, means (record a { store = store; activities = acts; pools = pools }))) where
  -- the fields but for the records
  abbrev b : Inside
  b = record a { store = store; activities = acts; pools = pools }

  pub acts_from : (records : Recordings) → left_at a app call answer (means b) ≡ records → Acts old (plain_of (record b { records = records })) app call answer
  acts_from records told =
      let limits = limits_of a.config in
      let w = means a in
      let P : Plain → Type 0 = λ o. Acts o (plain_of (record b { records = records })) app call answer in
      subst P viewed (record { made = acts_with limits w app call (cause limits w.bus app call) answer (means b) records refl made told; limits = refl })

  -- if what is in use is looked at last
  pub acts_seen : (told records : Recordings) → left_at a app call answer (means b) ≡ peaks_raised told (in_use (limits_of a.config) (means b).bus) → records ≡ peaks_raised told (in_use_at store) →
      IsPoolOf (limits_of a.config) store.account → IsHeld store → Acts old (plain_of (record b { records = records })) app call answer
  acts_seen told records is seen pool holds = acts_from records (is ∙ ap (peaks_raised told) (in_use_is b pool holds) ∙ sym seen)

  -- if nothing is told, and nothing in use is above its peak
  pub acts_quiet : is_quiet call ≡ true → leaves_desk call ≡ true → refusal_counter call answer ≡ [] →
      greater a.records.statistics.peak (in_use (limits_of a.config) (means b).bus) ≡ a.records.statistics.peak → Acts old (plain_of b) app call answer
  acts_quiet quiet leaves none covered =
      acts_from (recordings_of (means a).bus) (still_left (limits_of a.config) (means a).bus app call answer (means b).bus quiet leaves none covered)

  -- if nothing is told, and what is in use is looked at last
  pub acts_looked : is_quiet call ≡ true → leaves_desk call ≡ true → refusal_counter call answer ≡ [] → (records : Recordings) → records ≡ peaks_raised a.records (in_use_at store) →
      IsPoolOf (limits_of a.config) store.account → IsHeld store → Acts old (plain_of (record b { records = records })) app call answer
  acts_looked quiet leaves none records seen pool holds =
      acts_seen (recordings_of (means a).bus) records (quiet_left (limits_of a.config) (means a).bus app call answer (means b).bus quiet leaves none) seen pool holds

-- if nothing changes, and nothing is told
pub acts_still : (a : Inside) (old : Plain) (app : ℕ) (call : Call) (answer : BusAnswer) → plain_of a ≡ old → Keeps a → bare (limits_of a.config) (means a) app call ≡ (answer, means a) →
    is_quiet call ≡ true → leaves_desk call ≡ true → refusal_counter call answer ≡ [] → Acts old old app call answer
acts_still a old app call answer viewed keeps made quiet leaves none =
    let limits = limits_of a.config in
    let w = means a in
    let P : Plain → Type 0 = λ o. Acts o o app call answer in
    subst P viewed
    (record {
      made = acts_with limits w app call (cause limits w.bus app call) answer w (recordings_of w.bus) refl made
          (still_left limits w.bus app call answer w.bus quiet leaves none keeps.covered);
      limits = refl;
    })

-- what is always true, if what is in use was looked at last
pub seen_keeps : (b : Inside) (told : Recordings) → AreInOrder b → b.records ≡ peaks_raised told (in_use_at b.store) → IsHeld b.store → Keeps b
seen_keeps b told order seen holds =
    let now = in_use_at b.store in
    let covered : IsCovered (plain_of b) =
    ap (greater b.records.statistics.peak) (in_use_is b order.pool holds)
    ∙ ap (λ (r : Recordings). greater r.statistics.peak now) seen
    ∙ greater-twice told.statistics.peak now
    ∙ sym (ap (λ (r : Recordings). r.statistics.peak) seen) in
    record { order = order; covered = covered }

-- if the peaks stay, and what is in use
pub told_keeps : (a : Inside) (records : Recordings) → records.statistics.peak ≡ a.records.statistics.peak → Keeps a → Keeps (record a { records = records })
told_keeps a records same keeps = record {
  order = keeps.order;
  covered = ap (λ peak. greater peak (in_use (limits_of a.config) (means a).bus)) same ∙ keeps.covered ∙ sym same;
}

-- Refusals. --

-- what is told of the fields is told of the core
pub cause_told : (a : Inside) (old : Plain) (app : ℕ) (call : Call) (why : Option Refusal) → plain_of a ≡ old → cause (limits_of a.config) (means a).bus app call ≡ why →
    cause old.limits old.whole.bus app call ≡ why
cause_told a old app call why viewed here =
    let P : Plain → Type 0 = λ o. cause o.limits o.whole.bus app call ≡ why in
    subst P viewed here

-- a refused call that is counted, and changes nothing else
pub refused_acts : (old new : Plain) (app : ℕ) (call : Call) (status : SbStatus) (which : CounterName) → new ≡ with_tick old which → IsCovered old →
    cause old.limits old.whole.bus app call ≡ Some (OfBus status) →
    completed old.limits old.whole call (Sb status, refused_state old.whole.bus call (OfBus status)) ≡ (Sb status, old.whole) →
    leaves_desk call ≡ true → refusal_counter call (Sb status) ≡ which ∷ [] → Acts old new app call (Sb status)
refused_acts old new app call status which is covered why still leaves counter =
    let s = old.whole.bus in
    let ticked = counter_ticked (recordings_of s) which in
    let P : Plain → Type 0 = λ n. Acts old n app call (Sb status) in
    subst P (sym is)
    (record {
      made = acts_with old.limits old.whole app call (Some (OfBus status)) (Sb status) old.whole ticked why still
          (refused_left old.limits s app call status s which leaves counter covered);
      limits = refl;
    })
