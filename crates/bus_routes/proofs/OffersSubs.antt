-- Subscriptions of which one's count of waiting messages changes.
use Rattle.std.proofs.Common.{◌≡◌, ℕ, ◌≤◌, Bool, true, false, cond, eqb, List, [], ◌∷◌, Some, map, filter, count_by, is_some, refl, ap, sym, ◌∙◌, subst}
use Rattle.std.specs.List.{All}
use Rattle.std.proofs.lemmas.List.Elements.{All-map, All-weaker}
use Rattle.fsw_base.proofs.Lists.{filter-map, count_by-map}
use Rattle.pipe_queue.specs.declared.item.Item.{Item}
use Rattle.subscriptions.specs.declared.words.SubNo.{SubNo}
use Rattle.subscriptions.specs.Subs.{Subscribed, LiveSubscription, number_of, goes_by, live_at, with_change, IsRising, AreInOrder}
use Rattle.routing.specs.Routing.{Routing, route_of}
use Rattle.bus_routes.specs.Inside.{IsOf, IsQueued, AreRouted, of_id, uncounted, still, ties}
use Rattle.bus_routes.proofs.OffersLists.{all_unmap, Rises, only_one}

-- the subscriptions rise by number
pub subs_rise : (below : ℕ) (live : List LiveSubscription) → IsRising below live → Rises (λ s. s.number) below live
subs_rise below [] rising = tt
subs_rise below (s ∷ live) rising = (rising.0, subs_rise s.number live rising.1)

-- no other subscription has the number of a live one
pub only_sub : (subs : Subscribed) (sub : SubNo) (s : LiveSubscription) → AreInOrder subs → live_at subs sub ≡ Some s → All (λ t. t.number ≡ s.number → t ≡ s) subs.live
only_sub subs sub s order is = only_one (λ t. t.number) (goes_by sub) 0 subs.live s (subs_rise 0 subs.live order.rising) is

-- all but the counts
pub live_still : (subs after : Subscribed) → still after ≡ still subs → map uncounted after.live ≡ map uncounted subs.live
live_still subs after same = ap (λ (s : Subscribed). s.live) same

-- a change of one count leaves the rest
pub still-with_change : (subs : Subscribed) (sub : SubNo) (change : LiveSubscription → LiveSubscription) → ((s : LiveSubscription) → uncounted (change s) ≡ uncounted s) → still (with_change subs sub change) ≡ still subs
still-with_change subs sub change same = ap (λ l. let v : Subscribed = record subs { live = l } in v) (each subs.live)
  where
    by_test : (s : LiveSubscription) (b : Bool) → uncounted (cond {A = LiveSubscription} b (change s) s) ≡ uncounted s
    by_test s true = same s
    by_test s false = refl

    each : (live : List LiveSubscription) → map uncounted (map (λ s. cond {A = LiveSubscription} (goes_by sub s) (change s) s) live) ≡ map uncounted live
    each [] = refl
    each (s ∷ live) =
        ap (λ x. x ∷ map uncounted (map (λ t. cond {A = LiveSubscription} (goes_by sub t) (change t) t) live)) (by_test s (goes_by sub s)) ∙ ap (λ l. uncounted s ∷ l) (each live)

-- what is true of each but for its count stays so
pub all_still : (P : LiveSubscription → Type 0) (subs after : Subscribed) → ((s : LiveSubscription) → P s → P (uncounted s)) → ((s : LiveSubscription) → P (uncounted s) → P s) →
    still after ≡ still subs → All P subs.live → All P after.live
all_still P subs after into out same all =
    All-weaker (λ s. P (uncounted s)) P out after.live
    (all_unmap P uncounted after.live
    (subst (All P) (sym (live_still subs after same)) (All-map P uncounted subs.live (All-weaker P (λ s. P (uncounted s)) into subs.live all))))

-- an item on a pipe is of the same subscription
pub queued_still : (subs after : Subscribed) (pipe : ℕ) (item : Item) → still after ≡ still subs → IsQueued subs pipe item → IsQueued after pipe item
queued_still subs after pipe item same queued = record {
  made = subst (λ n. item.sub.number ≤ n) (sym (ap (λ (s : Subscribed). s.made) same)) queued.made;
  own = all_still (IsOf pipe item) subs after (λ s is. is) (λ s is. is) same queued.own;
}

-- an id has the same subscriptions
pub of_id-still : (subs after : Subscribed) (id : ℕ) → still after ≡ still subs → map number_of (of_id id after) ≡ map number_of (of_id id subs)
of_id-still subs after id same =
    sym (bare after) ∙ ap (λ l. map number_of (filter (λ s. eqb s.id id) l)) (live_still subs after same) ∙ bare subs
  where
    twice : (live : List LiveSubscription) → map number_of (map uncounted live) ≡ map number_of live
    twice [] = refl
    twice (s ∷ live) = ap (λ l. number_of s ∷ l) (twice live)

    bare : (s : Subscribed) → map number_of (filter (λ t. eqb t.id id) (map uncounted s.live)) ≡ map number_of (of_id id s)
    bare s = ap (map number_of) (filter-map (λ t. eqb t.id id) uncounted s.live) ∙ twice (of_id id s)

-- the routes stay theirs
pub routed_still : (subs after : Subscribed) (routing : Routing) → still after ≡ still subs → AreRouted subs routing → AreRouted after routing
routed_still subs after routing same routed = record {
  dests = λ id route is. routed.dests id route is ∙ sym (of_id-still subs after id same);
  ways = all_still (λ s. is_some (route_of routing.routes s.id) ≡ true) subs after (λ s is. is) (λ s is. is) same routed.ways;
  once = λ id pipe. subst (λ n. n ≤ 1) (sym (ties_still id pipe)) (routed.once id pipe);
}
  where
    ties_still : (id pipe : ℕ) → count_by (ties id pipe) after.live ≡ count_by (ties id pipe) subs.live
    ties_still id pipe =
        sym (count_by-map (ties id pipe) uncounted after.live)
        ∙ ap (count_by (ties id pipe)) (live_still subs after same)
        ∙ count_by-map (ties id pipe) uncounted subs.live
