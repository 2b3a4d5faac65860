-- What is in use and can't have grown need not be looked at: no peak is below what is in use.
use Rattle.std.proofs.Common.{◌≡◌, ℕ, ◌≤◌, max, List, length, ap, sym, ◌∙◌, arith}
use Rattle.std.proofs.lemmas.List.{length-map}
use Rattle.fsw_base.specs.Limits.{limits_of}
use Rattle.housekeeping.specs.declared.in_use.InUse.{InUse}
use Rattle.housekeeping.specs.Peaks.{greater}
use Rattle.bus_events.specs.declared.event.ServiceEvent.{ServiceEvent}
use Rattle.bus_words.specs.Held.{held, bytes_in_use, in_use}
use Rattle.bus_counts.specs.Records.{Recordings, told_all, peaks_raised}
use Rattle.bus_counts.proofs.Misses.{told_all-is}
use Rattle.bus_routes.specs.Rows.{RouteRow, ids_of}
use Rattle.bus_messages.specs.Store.{Store}
use Rattle.bus_core.specs.declared.plain.PlainBus.TheInside.{Inside}
use Rattle.bus_core.specs.Inside.{means, IsPoolOf, Keeps}
use Rattle.bus_core.specs.Rows.{in_use_at, blocks_in_use_at}
use Rattle.bus_core.proofs.Accounts.{IsHeld, in_use_is}

-- a peak that covers a number covers what isn't more
covers : (peak before now : ℕ) → max peak before ≡ peak → now ≤ before → max peak now ≡ peak
covers peak before now covered less = omega (arith, covered, less)

-- and need not be compared with that number again
needless : (peak before now : ℕ) → max peak before ≡ peak → now ≡ before → max peak 0 ≡ max peak now
needless peak before now covered same = omega (arith, covered, same)

-- of each number in use no more
record IsNoMore (before now : InUse) : Type 0 where
  pub msgids : now.msgids ≤ before.msgids
  pub pipes : now.pipes ≤ before.pipes
  pub subs : now.subs ≤ before.subs
  pub buffers : now.buffers ≤ before.buffers
  pub bytes : now.bytes ≤ before.bytes

covers_all : (peak before now : InUse) → greater peak before ≡ peak → IsNoMore before now → greater peak now ≡ peak
covers_all peak before now covered less =
    let msgids = covers peak.msgids before.msgids now.msgids (ap (λ (u : InUse). u.msgids) covered) less.msgids in
    let pipes = covers peak.pipes before.pipes now.pipes (ap (λ (u : InUse). u.pipes) covered) less.pipes in
    let subs = covers peak.subs before.subs now.subs (ap (λ (u : InUse). u.subs) covered) less.subs in
    let buffers = covers peak.buffers before.buffers now.buffers (ap (λ (u : InUse). u.buffers) covered) less.buffers in
    let bytes = covers peak.bytes before.bytes now.bytes (ap (λ (u : InUse). u.bytes) covered) less.bytes in
    let to : ℕ → ℕ → ℕ → ℕ → ℕ → InUse = λ m p s b y. record { msgids = m; pipes = p; subs = s; buffers = b; bytes = y } in
    ap (λ n. to n (max peak.pipes now.pipes) (max peak.subs now.subs) (max peak.buffers now.buffers) (max peak.bytes now.bytes)) msgids
    ∙ ap (λ n. to peak.msgids n (max peak.subs now.subs) (max peak.buffers now.buffers) (max peak.bytes now.bytes)) pipes
    ∙ ap (λ n. to peak.msgids peak.pipes n (max peak.buffers now.buffers) (max peak.bytes now.bytes)) subs
    ∙ ap (λ n. to peak.msgids peak.pipes peak.subs n (max peak.bytes now.bytes)) buffers
    ∙ ap (λ n. to peak.msgids peak.pipes peak.subs peak.buffers n) bytes

-- as many ids, pipes and subscriptions are in use
pub record AreAsMany (before now : Store) : Type 0 where
  pub routes : length now.routes ≡ length before.routes
  pub pipes : length now.pipes ≡ length before.pipes
  pub subs : length now.subscriptions ≡ length before.subscriptions

-- routes of the same ids are as many
pub as_many_routes : (routes others : List RouteRow) → ids_of others ≡ ids_of routes → length others ≡ length routes
as_many_routes routes others same =
    sym (length-map others (λ (r : RouteRow). r.id)) ∙ ap (λ (l : List ℕ). length l) same ∙ length-map routes (λ (r : RouteRow). r.id)

-- no more blocks are in use
pub record AreNoMore (before now : Store) : Type 0 where
  pub buffers : length (held now.pipes now.unsent now.numbers_given) ≤ length (held before.pipes before.unsent before.numbers_given)
  pub bytes : bytes_in_use now.account ≤ bytes_in_use before.account

-- the events of misses raise no peak
pub told_peak : (records : Recordings) (events : List ServiceEvent) → (told_all records events).statistics.peak ≡ records.statistics.peak
told_peak records events = ap (λ (r : Recordings). r.statistics.peak) (told_all-is records events)

module _ (a : Inside) (keeps : Keeps a) (holds : IsHeld a.store) where
  covered_at : greater a.records.statistics.peak (in_use_at a.store) ≡ a.records.statistics.peak
  covered_at = ap (greater a.records.statistics.peak) (sym (in_use_is a keeps.order.pool holds)) ∙ keeps.covered

  -- if a look at the blocks alone is one at all that is in use
  pub blocks_seen : (told : Recordings) (next : Store) → told.statistics.peak ≡ a.records.statistics.peak → AreAsMany a.store next →
      peaks_raised told (blocks_in_use_at next) ≡ peaks_raised told (in_use_at next)
  blocks_seen told next same many =
      let peak = told.statistics.peak in
      let covered : greater peak (in_use_at a.store) ≡ peak = ap (λ (p : InUse). greater p (in_use_at a.store)) same ∙ covered_at ∙ sym same in
      let msgids = needless peak.msgids (length a.store.routes) (length next.routes) (ap (λ (u : InUse). u.msgids) covered) many.routes in
      let pipes = needless peak.pipes (length a.store.pipes) (length next.pipes) (ap (λ (u : InUse). u.pipes) covered) many.pipes in
      let subs = needless peak.subs (length a.store.subscriptions) (length next.subscriptions) (ap (λ (u : InUse). u.subs) covered) many.subs in
      let to : ℕ → ℕ → ℕ → Recordings = λ m p s. record told {
        statistics = record told.statistics {
          peak = record {
            msgids = m;
            pipes = p;
            subs = s;
            buffers = max peak.buffers (length (held next.pipes next.unsent next.numbers_given));
            bytes = max peak.bytes (bytes_in_use next.account);
          };
        };
      } in
      ap (λ n. to n (max peak.pipes 0) (max peak.subs 0)) msgids
      ∙ ap (λ n. to (max peak.msgids (length next.routes)) n (max peak.subs 0)) pipes
      ∙ ap (λ n. to (max peak.msgids (length next.routes)) (max peak.pipes (length next.pipes)) n) subs

  -- if no look is needed
  pub none_seen : (next : Store) → IsHeld next → IsPoolOf (limits_of a.config) next.account → AreAsMany a.store next → AreNoMore a.store next →
      greater a.records.statistics.peak (in_use (limits_of a.config) (means (record a { store = next })).bus) ≡ a.records.statistics.peak
  none_seen next held pool many fewer =
      ap (greater a.records.statistics.peak) (in_use_is (record a { store = next }) pool held)
      ∙ covers_all a.records.statistics.peak (in_use_at a.store) (in_use_at next) covered_at
      (record {
        msgids = omega (arith, many.routes);
        pipes = omega (arith, many.pipes);
        subs = omega (arith, many.subs);
        buffers = fewer.buffers;
        bytes = fewer.bytes;
      })
