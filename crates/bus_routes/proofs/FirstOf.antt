-- The first subscription of an id to a pipe, looked for along the id's destinations.
use Rattle.std.proofs.Common.{◌≡◌, ℕ, ◌+◌, ◌*◌, ◌<◌, Bool, true, false, cond, ◌&&◌, eqb, List, [], ◌∷◌, ◌++◌, length, take, drop, map, find, Option, Some, None, is_some, refl, ap, sym, ◌∙◌, subst, arith}
use Rattle.std.specs.List.{All}
use Rattle.std.specs.Option.{IfSome, option_map}
use Rattle.std.proofs.lemmas.Bool.{and_from}
use Rattle.std.proofs.lemmas.Bool.Decides.{nat_tests}
use Rattle.std.proofs.lemmas.List.{length-map, drop-map}
use Rattle.std.proofs.lemmas.List.Elements.{All-head, All-drop, filter_passes, All-filter}
use Rattle.bus_words.proofs.Finds.{find-filter}
use Rattle.subscriptions.specs.declared.words.SubNo.{SubNo}
use Rattle.subscriptions.specs.declared.words.SubRow.{SubRow}
use Rattle.subscriptions.specs.Subs.{Subscribed, LiveSubscription, number_of, live_at, row_of, AreInOrder}
use Rattle.routing.specs.Dests.{Dest, first_dest}
use Rattle.routing.specs.Routing.{Routing, route_of, dests_at}
use Rattle.bus_routes.specs.Inside.{of_id, ties, first_of, AreRouted}
use Rattle.bus_routes.proofs.Deliveries.{each_found, left_more, first_left, stands_at}
use Rattle.bus_routes.proofs.OffersSubs.{subs_rise}

-- the first of an id to a pipe is found among the id's
found_of_id : (subs : Subscribed) (id pipe : ℕ) → find (ties id pipe) (of_id id subs) ≡ find (ties id pipe) subs.live
found_of_id subs id pipe = find-filter (ties id pipe) (λ s. eqb s.id id) (λ s both. first_true (eqb s.id id) (eqb s.pipe pipe) both) subs.live
  where
    first_true : (a b : Bool) → (a && b) ≡ true → a ≡ true
    first_true true b both = refl
    first_true false b both = absurd (cc (both))

-- an id without a route has none
pub none_unrouted : (subs : Subscribed) (routing : Routing) (id pipe : ℕ) → AreRouted subs routing → of_id id subs ≡ [] → None ≡ first_of subs id pipe
none_unrouted subs routing id pipe routed none =
    ap (λ l. option_map number_of (find (ties id pipe) l)) (sym none) ∙ ap (option_map number_of) (found_of_id subs id pipe)

-- So many destinations are passed: the first of the pipe is among what is left of them.
pub record Passed (subs : Subscribed) (routing : Routing) (id pipe way k : ℕ) (at : Option Dest) : Type 0 where
  pub at_is : at ≡ first_dest (drop k (dests_at routing way))
  pub low : IfSome at (λ dest. dest.0 < routing.msgids * routing.dests)
  pub left : find (ties id pipe) (drop k (of_id id subs)) ≡ find (ties id pipe) subs.live

module _ (subs : Subscribed) (routing : Routing) (id pipe way : ℕ)
    (order : AreInOrder subs) (routed : AreRouted subs routing) (is : route_of routing.routes id ≡ Some way) where
  tied : map (λ dest. dest.1) (dests_at routing way) ≡ map number_of (of_id id subs)
  tied = routed.dests id way is

  pub as_many : length (of_id id subs) ≡ length (dests_at routing way)
  as_many = sym (length-map (of_id id subs) number_of) ∙ ap length (sym tied) ∙ length-map (dests_at routing way) (λ dest. dest.1)

  pub passed_none : (at : Option Dest) → at ≡ first_dest (dests_at routing way) → IfSome at (λ dest. dest.0 < routing.msgids * routing.dests) → Passed subs routing id pipe way 0 at
  passed_none at at_is low = record { at_is = at_is; low = low; left = found_of_id subs id pipe }

  module _ (k node : ℕ) (sub : SubNo) (passed : Passed subs routing id pipe way k (Some (node, sub))) where
    here : drop k (dests_at routing way) ≡ (node, sub) ∷ drop (k + 1) (dests_at routing way)
    here = first_left k (dests_at routing way) (node, sub) passed.at_is

    -- the subscription whose turn it is
    due : (s : LiveSubscription) × (drop k (of_id id subs) ≡ s ∷ drop (k + 1) (of_id id subs)) × (number_of s ≡ sub)
    due = by_left (drop k (of_id id subs)) refl
        (sym (drop-map number_of k (of_id id subs)) ∙ ap (drop k) (sym tied) ∙ drop-map (λ dest. dest.1) k (dests_at routing way) ∙ ap (map (λ dest. dest.1)) here)
      where
        by_left : (l : List LiveSubscription) → drop k (of_id id subs) ≡ l → map number_of l ≡ sub ∷ map (λ dest. dest.1) (drop (k + 1) (dests_at routing way)) →
            (s : LiveSubscription) × (drop k (of_id id subs) ≡ s ∷ drop (k + 1) (of_id id subs)) × (number_of s ≡ sub)
        by_left [] none some = absurd (cc (some))
        by_left (s ∷ rest) at some = (s, at ∙ ap (λ l. s ∷ l) (left_more k (of_id id subs) s rest at), cc (some))

    -- it is live
    live : live_at subs sub ≡ Some due.0
    live =
        let Found : LiveSubscription → Type 0 = λ s. live_at subs (number_of s) ≡ Some s in
        let all : All Found (due.0 ∷ drop (k + 1) (of_id id subs)) =
        subst (All Found) due.1 (All-drop Found k (of_id id subs) (All-filter (λ s. eqb s.id id) Found subs.live (each_found 0 subs.live (subs_rise 0 subs.live order.rising)))) in
        subst (λ n. live_at subs n ≡ Some due.0) due.2 (All-head Found due.0 (drop (k + 1) (of_id id subs)) all)

    pub is_live : is_some (live_at subs sub) ≡ true
    is_live = ap is_some live

    -- it is the id's
    its : eqb due.0.id id ≡ true
    its = All-head (λ s. eqb s.id id ≡ true) due.0 (drop (k + 1) (of_id id subs))
        (subst (All (λ s. eqb s.id id ≡ true)) due.1 (All-drop (λ s. eqb s.id id ≡ true) k (of_id id subs) (filter_passes (λ s. eqb s.id id) subs.live)))

    -- the pipe that it was made for
    pipe_is : (row : SubRow) → option_map row_of (live_at subs sub) ≡ Some row → due.0.pipe ≡ row.pipe
    pipe_is row at =
        let same : Some (row_of due.0) ≡ Some row = ap (option_map row_of) (sym live) ∙ at in
        let both : row_of due.0 ≡ row = cc (same) in
        ap (λ r. r.pipe) both

    -- if it is the pipe's, it is the first
    pub found_here : (row : SubRow) → option_map row_of (live_at subs sub) ≡ Some row → row.pipe ≡ pipe → Some sub ≡ first_of subs id pipe
    found_here row at same =
        ap Some (sym due.2)
        ∙ ap (λ b. option_map number_of (cond {A = Option LiveSubscription} b (Some due.0) (find (ties id pipe) (drop (k + 1) (of_id id subs)))))
        (sym (and_from (eqb due.0.id id) (eqb due.0.pipe pipe) its (holds due.0.pipe pipe (pipe_is row at ∙ same))))
        ∙ ap (λ l. option_map number_of (find (ties id pipe) l)) (sym due.1)
        ∙ ap (option_map number_of) passed.left
      where
        holds : (a b : ℕ) → a ≡ b → eqb a b ≡ true
        holds a b e = grind (arith, nat_tests)

    -- and if not, it is among the rest
    pub passed_more : (row : SubRow) → option_map row_of (live_at subs sub) ≡ Some row → (row.pipe ≡ pipe → ⊥) → (at : Option Dest) → at ≡ first_dest (drop (k + 1) (dests_at routing way)) →
        IfSome at (λ dest. dest.0 < routing.msgids * routing.dests) → Passed subs routing id pipe way (k + 1) at
    passed_more row at other next next_is low = record {
      at_is = next_is;
      low = low;
      left =
          ap (λ b. cond {A = Option LiveSubscription} b (Some due.0) (find (ties id pipe) (drop (k + 1) (of_id id subs))))
          (sym (fails (eqb due.0.id id) due.0.pipe pipe (λ e. other (sym (pipe_is row at) ∙ e))))
          ∙ ap (find (ties id pipe)) (sym due.1)
          ∙ passed.left;
    }
      where
        fails : (a : Bool) (m n : ℕ) → (m ≡ n → ⊥) → (a && eqb m n) ≡ false
        fails true m n ne = grind (arith, nat_tests)
        fails false m n ne = refl

    -- where the node stands
    pub stands : dests_at routing way ≡ take k (dests_at routing way) ++ (node, sub) ∷ drop (k + 1) (dests_at routing way)
    stands = stands_at k (dests_at routing way) (node, sub) passed.at_is

  -- behind the last there is none
  pub none_behind : (k : ℕ) (at : Option Dest) → Passed subs routing id pipe way k at → drop k (dests_at routing way) ≡ [] → None ≡ first_of subs id pipe
  none_behind k at passed none =
      let empty : drop k (of_id id subs) ≡ [] =
      by_left (drop k (of_id id subs)) refl
      (sym (drop-map number_of k (of_id id subs)) ∙ ap (drop k) (sym tied) ∙ drop-map (λ dest. dest.1) k (dests_at routing way) ∙ ap (map (λ dest. dest.1)) none) in
      ap (λ l. option_map number_of (find (ties id pipe) l)) (sym empty) ∙ ap (option_map number_of) passed.left
    where
      by_left : (l : List LiveSubscription) → drop k (of_id id subs) ≡ l → map number_of l ≡ [] → drop k (of_id id subs) ≡ []
      by_left [] at empty = at
      by_left (s ∷ rest) at some = absurd (cc (some))
