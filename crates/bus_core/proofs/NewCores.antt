-- A core that was just made.
use Rattle.std.proofs.Common.{◌≡◌, ℕ, zero, suc, ◌-◌, Bool, true, false, cond, eqb, List, [], ◌∷◌, get_or, length, map, replicate, refl, ap, sym, ◌∙◌, subst}
use Rattle.std.proofs.lemmas.List.{length-replicate}
use Rattle.std.proofs.lemmas.List.Elements.{All-nil}
use Rattle.fsw_base.specs.Limits.{Limits, limits_of}
use Rattle.fsw_base.specs.Grants.{Pools}
use Rattle.bus_words.specs.Bus.{Active, Standing, Subscription}
use Rattle.bus_words.specs.Acts.{opening_whole}
use Rattle.bus_words.proofs.Statistics.{AreCapped-after}
use Rattle.bus_routes.specs.Rows.{has_way}
use Rattle.bus_counts.specs.Records.{no_recordings}
use Rattle.bus_messages.specs.Store.{opened}
use Rattle.bus_core.specs.declared.plain.PlainBus.TheInside.{Inside}
use Rattle.bus_core.specs.declared.activities.Activity.{Activity}
use Rattle.bus_core.specs.declared.activities.Activity.TheVariants as activities
use Rattle.bus_core.specs.Inside.{plain_of, means, AreInOrder, IsCovered, Keeps}
use Rattle.bus_core.specs.Rows.{standing_in, activity_at}

standings-active : (n : ℕ) → map standing_in (replicate n activities.Active) ≡ replicate n Active
standings-active zero = refl
standings-active (suc n) = ap (λ l. Active ∷ l) (standings-active n)

-- an application that is active, or that there isn't, doesn't wait
nobody_waits : (apps app pipe : ℕ) → activity_at (replicate apps activities.Active) app ≡ activities.Waiting pipe → ⊥
nobody_waits apps app pipe waits = by_test (eqb app 0) waits
  where
    at : (n i : ℕ) → get_or (replicate n activities.Active) i activities.Ended ≡ activities.Waiting pipe → ⊥
    at zero zero is = cc (is)
    at zero (suc i) is = cc (is)
    at (suc n) zero is = cc (is)
    at (suc n) (suc i) is = at n i is

    by_test : (b : Bool) → cond {A = Activity} b activities.Ended (get_or (replicate apps activities.Active) (app - 1) activities.Ended) ≡ activities.Waiting pipe → ⊥
    by_test true is = cc (is)
    by_test false is = at apps (app - 1) is

module _ (a : Inside) (limits : Limits) (apps : ℕ) (same : limits_of a.config ≡ limits) (active : a.activities.items ≡ replicate apps activities.Active) (store : a.store ≡ opened limits apps) where
  pub opened_plain : a.pools ≡ record { most = limits.apppool; sizes = limits.sizes; pools = [] } → a.records ≡ no_recordings → plain_of a ≡ record { limits = limits; whole = opening_whole limits apps; loans = []; descs = [] }
  opened_plain pools records =
      let no_pools : Pools = record { most = limits.apppool; sizes = limits.sizes; pools = [] } in
      ap (λ s. plain_of (record a { store = s })) store
      ∙ ap (λ q. plain_of (record a { store = opened limits apps; pools = q })) pools
      ∙ ap (λ r. plain_of (record a { store = opened limits apps; pools = no_pools; records = r })) records
      ∙ ap (λ l. record { limits = l; whole = means (record a { store = opened limits apps; pools = no_pools; records = no_recordings }); loans = []; descs = [] }) same
      ∙ ap (λ (st : List Standing). record { limits = limits; whole = record { bus = record (opening_whole limits apps).bus { standings = st }; nexts = [] }; loans = []; descs = [] })
      (ap (map standing_in) active ∙ standings-active apps)

  opened_order : AreInOrder a
  opened_order =
      let there : opened limits apps ≡ a.store = sym store in
      subst (λ s. AreInOrder (record a { store = s })) there
      (record {
        room = ap (λ l. (opened l apps).room) (sym same);
        pool = record { bytes = ap (λ (l : Limits). l.pool) (sym same); sizes = ap (λ (l : Limits). l.sizes) (sym same); errors = refl };
        ways = All-nil (λ (sub : Subscription). has_way [] sub.id ≡ true);
        once = tt;
        ready = λ app pipe waits. absurd (nobody_waits apps app pipe (ap (λ l. activity_at l app) (sym active) ∙ waits));
        places = length-replicate apps [] ∙ sym (ap length active ∙ length-replicate apps activities.Active);
      })

  pub opened_keeps : a.pools ≡ record { most = limits.apppool; sizes = limits.sizes; pools = [] } → a.records ≡ no_recordings → Keeps a
  opened_keeps pools records = record { order = opened_order; covered = subst IsCovered (sym (opened_plain pools records)) (AreCapped-after limits apps []) }
