-- The message that waits longest leaves a pipe's queue: what waits then is counted, and contracts see the row after a receive.
use Rattle.std.proofs.Common.{◌≡◌, ℕ, ◌+◌, ◌-◌, ◌≤◌, Bool, true, false, cond, eqb, List, [], ◌∷◌, drop, map, find, Option, Some, None, count_by, refl, ap, sym, ◌∙◌, subst, arith}
use Rattle.std.specs.List.{All}
use Rattle.std.specs.Option.{IfSome, ForSome, option_map, option_and_then}
use Rattle.std.proofs.lemmas.Bool.{eqb-true, eq-eqb, both_ways, and_from, false_from_ne_true}
use Rattle.std.proofs.lemmas.List.Elements.{All-head, All-map, All-weaker, All-drop}
use Rattle.std.proofs.lemmas.List.Sums.{sum_by-cons}
use Rattle.pipe_queue.specs.declared.item.Item.{Item}
use Rattle.pipe_table.specs.Table.{Pipes}
use Rattle.subscriptions.specs.declared.words.SubNo.{SubNo}
use Rattle.subscriptions.specs.Subs.{Subscribed, LiveSubscription, goes_by, live_at, one_fewer, with_change}
use Rattle.routing.specs.Routing.{Routing}
use Rattle.bus_routes.specs.declared.tables.BusTables.TheInside.{Inside}
use Rattle.bus_words.specs.Pipes.{with_pipe, after_receive, without_front, oldest, PipeOf, pipe_at, oldest_on}
use Rattle.bus_routes.specs.Rows.{Row}
use Rattle.bus_routes.specs.Tables.{Tables}
use Rattle.bus_routes.specs.Inside.{item_in, row_in, sub_in, tables_in, waiting_at, uncounted, still, frame, fewer_by, IsCounted, IsOf, IsQueued, AreQueued, AreTied}
use Rattle.bus_words.proofs.PipeItems.{after_receive-map}
use Rattle.bus_routes.proofs.PipeChanges.{rows_changed}
use Rattle.bus_routes.proofs.Offers.{goes_by_parts}
use Rattle.bus_routes.proofs.OffersLists.{all_both, found_is, found_passes}
use Rattle.bus_routes.proofs.OffersRows.{changed, pipe_row-with_row}
use Rattle.bus_routes.proofs.PipePlaces.{placed_after}
use Rattle.bus_routes.proofs.OffersSubs.{live_still, still-with_change, queued_still, routed_still}

-- What contracts see. --

-- the tables, if pipes changed and counts alone did of the subscriptions
pub tables_after : (old pipes : Pipes) (before subs : Subscribed) (routing : Routing) (rows : List Row) → frame pipes ≡ frame old → still subs ≡ still before → map row_in pipes.live ≡ rows →
    tables_in pipes subs routing ≡ record (tables_in old before routing) { pipes = rows }
tables_after old pipes before subs routing rows framed same seen =
    ap (λ (p : Pipes). let t : Tables = record (tables_in p subs routing) { pipes = map row_in pipes.live } in t) framed
    ∙ ap (λ (s : Subscribed). let t : Tables = record (tables_in old before routing) { pipes = map row_in pipes.live; subscriptions = map sub_in subs.live; subscriptions_made = s.made } in t) same
    ∙ ap (λ l. let t : Tables = record (tables_in old before routing) { pipes = map row_in pipes.live; subscriptions = l } in t) (sym (bare subs.live) ∙ ap (map sub_in) (live_still before subs same) ∙ bare before.live)
    ∙ ap (λ l. let t : Tables = record (tables_in old before routing) { pipes = l } in t) seen
  where
    bare : (live : List LiveSubscription) → map sub_in (map uncounted live) ≡ map sub_in live
    bare [] = refl
    bare (s ∷ live) = ap (λ l. sub_in s ∷ l) (bare live)

-- the tables stay tied
pub tied_after : (old pipes : Pipes) (before subs : Subscribed) (routing : Routing) → AreTied old before routing → frame pipes ≡ frame old → still subs ≡ still before → AreQueued pipes.live subs → AreTied pipes subs routing
tied_after old pipes before subs routing tied framed same queued = record { queued = queued; placed = placed_after old pipes before subs framed same tied.placed; routed = routed_still before subs routing same tied.routed; room = ap (λ (s : Subscribed). s.room) same ∙ tied.room }

-- what is behind the first item, as contracts see it
fewer : (queue : List Item) → map item_in (drop 1 queue) ≡ drop 1 (map item_in queue)
fewer [] = refl
fewer (item ∷ queue) = refl

-- the row after a receive
pub taken_row_seen : (row : PipeOf Item) → row_in (after_receive row) ≡ after_receive (row_in row)
taken_row_seen row = after_receive-map item_in row

-- the row without what waits longest
pub front_row_seen : (row : PipeOf Item) → row_in (without_front row) ≡ without_front (row_in row)
front_row_seen row = ap (λ q. let r : Row = record (row_in row) { queue = q } in r) (fewer row.queue)

-- What waits then. --

-- how many wait of those behind the first
behind_none : (p : Item → Bool) (queue : List Item) → oldest queue ≡ None → count_by p (drop 1 queue) ≡ count_by p queue
behind_none p [] none = refl
behind_none p (item ∷ queue) none = absurd (cc (none))

behind_first : (p : Item → Bool) (queue : List Item) (item : Item) → oldest queue ≡ Some item → count_by p queue ≡ cond (p item) 1 0 + count_by p (drop 1 queue)
behind_first p [] item is = absurd (cc (is))
behind_first p (first ∷ queue) item is =
    let same : first ≡ item = cc (is) in
    sum_by-cons (λ i. cond {A = ℕ} (p i) 1 0) first queue ∙ ap (λ i. cond {A = ℕ} (p i) 1 0 + count_by p queue) same

first_of_all : (P : Item → Type 0) (queue : List Item) (item : Item) → All P queue → oldest queue ≡ Some item → P item
first_of_all P [] item all is = absurd (cc (is))
first_of_all P (first ∷ queue) item all is =
    let same : first ≡ item = cc (is) in
    subst P same (All-head P first queue all)

-- what a change keeps of the pipe of its number, it keeps of the one of each
of_found_kept : {X : Type 0} (w : PipeOf Item → X) (f : PipeOf Item → PipeOf Item) (number other : ℕ) (rows : List (PipeOf Item)) →
    ((row : PipeOf Item) → (f row).number ≡ row.number) → ((row : PipeOf Item) → pipe_at rows number ≡ Some row → w (f row) ≡ w row) →
    option_map w (pipe_at (with_pipe f number rows) other) ≡ option_map w (pipe_at rows other)
of_found_kept w f number other rows same keeps =
    ap (option_map w) (pipe_row-with_row f number other rows same) ∙ by_row (pipe_at rows other) refl
  where
    by_test : (row : PipeOf Item) → pipe_at rows other ≡ Some row → (b : Bool) → eqb row.number number ≡ b → w (cond {A = PipeOf Item} b (f row) row) ≡ w row
    by_test row is true here =
        let mine : other ≡ number = sym (eqb-true row.number other (found_passes (λ r. eqb r.number other) rows row is)) ∙ eqb-true row.number number here in
        keeps row (ap (pipe_at rows) (sym mine) ∙ is)
    by_test row is false here = refl

    by_row : (o : Option (PipeOf Item)) → pipe_at rows other ≡ o → option_map w (option_map (changed f number) o) ≡ option_map w o
    by_row None is = refl
    by_row (Some row) is = ap Some (by_test row is (eqb row.number number) refl)

-- a change of a row that takes the first item out of its queue, and leaves its number
pub record TakesFront (f : PipeOf Item → PipeOf Item) : Type 0 where
  pub number : (row : PipeOf Item) → (f row).number ≡ row.number
  pub queue : (row : PipeOf Item) → (f row).queue ≡ drop 1 row.queue

module _ (f : PipeOf Item → PipeOf Item) (front : TakesFront f) (rows : List (PipeOf Item)) (subs : Subscribed) (number : ℕ) (queued : AreQueued rows subs) where
  -- what is left in the queues
  items : (after : Subscribed) → still after ≡ still subs → All (λ r. All (IsQueued after r.number) r.queue) (with_pipe f number rows)
  items after same =
      All-map (λ r. All (IsQueued after r.number) r.queue) (changed f number) rows
      (All-weaker (λ r. All (IsQueued subs r.number) r.queue) (λ r. All (IsQueued after (changed f number r).number) (changed f number r).queue)
      (λ r all. by_test r (All-weaker (IsQueued subs r.number) (IsQueued after r.number) (λ i is. queued_still subs after r.number i same is) r.queue all) (eqb r.number number)) rows queued.items)
    where
      by_test : (r : PipeOf Item) → All (IsQueued after r.number) r.queue → (b : Bool) →
          All (IsQueued after (cond {A = PipeOf Item} b (f r) r).number) (cond {A = PipeOf Item} b (f r) r).queue
      by_test r all true =
          subst (λ n. All (IsQueued after n) (f r).queue) (sym (front.number r))
          (subst (λ q. All (IsQueued after r.number) q) (sym (front.queue r)) (All-drop (IsQueued after r.number) 1 r.queue all))
      by_test r all false = all

  -- if none waits
  pub none_taken : oldest_on rows number ≡ None → AreQueued (with_pipe f number rows) subs
  none_taken none = record {
    counted =
        All-weaker (IsCounted rows) (IsCounted (with_pipe f number rows))
        (λ t is. of_found_kept (λ r. waiting_at r t.number) f number t.pipe rows front.number
        (λ row here. ap (count_by (λ i. eqb i.sub.number t.number)) (front.queue row) ∙ behind_none (λ i. eqb i.sub.number t.number) row.queue (ap (option_and_then (λ r. oldest r.queue)) (sym here) ∙ none)) ∙ is)
        subs.live queued.counted;
    items = items subs refl;
  }

  -- if one waits
  module _ (item : Item) (waits : oldest_on rows number ≡ Some item) where
    row_there : (row : PipeOf Item) × (pipe_at rows number ≡ Some row) × (oldest row.queue ≡ Some item)
    row_there = by_row (pipe_at rows number) refl waits
      where
        by_row : (o : Option (PipeOf Item)) → pipe_at rows number ≡ o → option_and_then (λ r. oldest r.queue) o ≡ Some item → (row : PipeOf Item) × (pipe_at rows number ≡ Some row) × (oldest row.queue ≡ Some item)
        by_row None is first = absurd (cc (first))
        by_row (Some row) is first = (row, is, first)

    abbrev row : PipeOf Item
    row = row_there.0

    its : IsQueued subs number item
    its =
        first_of_all (IsQueued subs number) row.queue item
        (subst (λ n. All (IsQueued subs n) row.queue) (eqb-true row.number number (found_passes (λ r. eqb r.number number) rows row row_there.1))
        (found_is (λ r. All (IsQueued subs r.number) r.queue) (λ r. eqb r.number number) rows row queued.items row_there.1))
        row_there.2

    -- its subscription's count
    own_count : (t : LiveSubscription) → IsCounted rows t → IsOf number item t → t.number ≡ item.sub.number → 1 + waiting_at (f row) t.number ≡ t.waiting
    own_count t is own mine =
        let counted : ◌≡◌ {A = Option ℕ} (Some (waiting_at row t.number)) (Some t.waiting) =
        ap (option_map (λ r. waiting_at r t.number)) (sym row_there.1) ∙ ap (λ n. option_map (λ r. waiting_at r t.number) (pipe_at rows n)) (sym (own mine).1) ∙ is in
        let waits : waiting_at row t.number ≡ t.waiting = cc (counted) in
        ap (λ q. 1 + count_by (λ i. eqb i.sub.number t.number) q) (front.queue row)
        ∙ ap (λ b. cond {A = ℕ} b 1 0 + count_by (λ i. eqb i.sub.number t.number) (drop 1 row.queue)) (sym (eq-eqb item.sub.number t.number (sym mine)))
        ∙ sym (behind_first (λ i. eqb i.sub.number t.number) row.queue item row_there.2)
        ∙ waits

    -- at least one waits
    pub one_waits : (s : LiveSubscription) → live_at subs item.sub ≡ Some s → 1 ≤ s.waiting
    one_waits s live =
        omega (
          arith,
          own_count s (found_is (IsCounted rows) (goes_by item.sub) subs.live s queued.counted live) (found_is (IsOf number item) (goes_by item.sub) subs.live s its.own live)
              (goes_by_parts item.sub s (found_passes (goes_by item.sub) subs.live s live)).1,
        )

    counted : (t : LiveSubscription) → IsCounted rows t → IsOf number item t → (b : Bool) → goes_by item.sub t ≡ b →
        IsCounted (with_pipe f number rows) (cond {A = LiveSubscription} b (one_fewer t) t)
    counted t is own true here =
        let mine = (goes_by_parts item.sub t here).1 in
        let w : PipeOf Item → ℕ = λ r. waiting_at r t.number in
        let left : waiting_at (f row) t.number ≡ t.waiting - 1 = omega (arith, own_count t is own mine) in
        ap (λ n. option_map w (pipe_at (with_pipe f number rows) n)) (own mine).1
        ∙ ap (option_map w) (pipe_row-with_row f number number rows front.number ∙ ap (option_map (changed f number)) row_there.1)
        ∙ ap (λ b. Some (w (cond {A = PipeOf Item} b (f row) row))) (found_passes (λ r. eqb r.number number) rows row row_there.1)
        ∙ ap Some left
    counted t is own false here =
        of_found_kept (λ r. waiting_at r t.number) f number t.pipe rows front.number keeps ∙ is
      where
        apart : eqb item.sub.number t.number ≡ false
        apart = false_from_ne_true (eqb item.sub.number t.number) (λ equal.
            let mine : t.number ≡ item.sub.number = sym (eqb-true item.sub.number t.number equal) in
            both_ways (goes_by item.sub t) here
            (and_from (eqb t.slot item.sub.slot) (eqb t.number item.sub.number) (eq-eqb t.slot item.sub.slot (own mine).0) (eq-eqb t.number item.sub.number mine)))

        keeps : (r : PipeOf Item) → pipe_at rows number ≡ Some r → waiting_at (f r) t.number ≡ waiting_at r t.number
        keeps r there =
            let same : row ≡ r = cc (row_there.1, there) in
            let more = behind_first (λ i. eqb i.sub.number t.number) row.queue item row_there.2 ∙ ap (λ b. cond {A = ℕ} b 1 0 + count_by (λ i. eqb i.sub.number t.number) (drop 1 row.queue)) apart in
            let behind = ap (count_by (λ i. eqb i.sub.number t.number)) (front.queue row) in
            subst (λ q. waiting_at (f q) t.number ≡ waiting_at q t.number) same (omega (arith, more, behind))

    pub one_taken : AreQueued (with_pipe f number rows) (with_change subs item.sub one_fewer)
    one_taken = record {
      counted =
          All-map (IsCounted (with_pipe f number rows)) (λ t. cond {A = LiveSubscription} (goes_by item.sub t) (one_fewer t) t) subs.live
          (all_both (IsCounted rows) (IsOf number item) (λ t. IsCounted (with_pipe f number rows) (cond {A = LiveSubscription} (goes_by item.sub t) (one_fewer t) t))
          (λ t is own. counted t is own (goes_by item.sub t) refl) subs.live queued.counted its.own);
      items = items (with_change subs item.sub one_fewer) (still-with_change subs item.sub one_fewer (λ t. refl));
    }

  -- Whether one waits or not. --

  -- the oldest message's subscription counts at least one
  pub waits_if : (item : Option Item) → oldest_on rows number ≡ item → IfSome item (λ i. ForSome (live_at subs i.sub) (λ s. 1 ≤ s.waiting))
  waits_if None is = tt
  waits_if (Some item) is = one_waits item is

  -- what waits is counted, once it counts one fewer
  pub queued_if : (item : Option Item) → oldest_on rows number ≡ item → AreQueued (with_pipe f number rows) (fewer_by item subs)
  queued_if None is = none_taken is
  queued_if (Some item) is = one_taken item is

-- a live subscription stays, with as many of its messages waiting, or one fewer
pub live_fewer : (subs : Subscribed) (sub : SubNo) (s : LiveSubscription) (item : Option Item) → live_at subs sub ≡ Some s →
    (t : LiveSubscription) × (live_at (fewer_by item subs) sub ≡ Some t) × (t.waiting ≤ s.waiting) × (t.pipe ≡ s.pipe)
live_fewer subs sub s None live = (s, live, omega arith, refl)
live_fewer subs sub s (Some item) live = by_list subs.live live
  where
    then : LiveSubscription → LiveSubscription
    then t = cond {A = LiveSubscription} (goes_by item.sub t) (one_fewer t) t

    by_test : (t : LiveSubscription) (b : Bool) → goes_by sub (cond {A = LiveSubscription} b (one_fewer t) t) ≡ goes_by sub t
    by_test t true = refl
    by_test t false = refl

    fewer_waits : (t : LiveSubscription) (b : Bool) → (cond {A = LiveSubscription} b (one_fewer t) t).waiting ≤ t.waiting
    fewer_waits t true = omega arith
    fewer_waits t false = omega arith

    same_pipe : (t : LiveSubscription) (b : Bool) → (cond {A = LiveSubscription} b (one_fewer t) t).pipe ≡ t.pipe
    same_pipe t true = refl
    same_pipe t false = refl

    by_list : (live : List LiveSubscription) → find (goes_by sub) live ≡ Some s →
        (t : LiveSubscription) × (find (goes_by sub) (map then live) ≡ Some t) × (t.waiting ≤ s.waiting) × (t.pipe ≡ s.pipe)
    by_list [] none = absurd (cc (none))
    by_list (x ∷ live) some = by_first (goes_by sub x) refl some (λ rest. by_list live rest)
      where
        by_first : (b : Bool) → goes_by sub x ≡ b → cond {A = Option LiveSubscription} b (Some x) (find (goes_by sub) live) ≡ Some s →
            (find (goes_by sub) live ≡ Some s → (t : LiveSubscription) × (find (goes_by sub) (map then live) ≡ Some t) × (t.waiting ≤ s.waiting) × (t.pipe ≡ s.pipe)) →
            (t : LiveSubscription) × (cond {A = Option LiveSubscription} (goes_by sub (then x)) (Some (then x)) (find (goes_by sub) (map then live)) ≡ Some t) × (t.waiting ≤ s.waiting) × (t.pipe ≡ s.pipe)
        by_first true here is later =
            let it : x ≡ s = cc (is) in
            subst (λ (y : LiveSubscription). (t : LiveSubscription) × (cond {A = Option LiveSubscription} (goes_by sub (then x)) (Some (then x)) (find (goes_by sub) (map then live)) ≡ Some t) × (t.waiting ≤ y.waiting) × (t.pipe ≡ y.pipe)) it (
              then x,
              ap (λ b. cond {A = Option LiveSubscription} b (Some (then x)) (find (goes_by sub) (map then live))) (by_test x (goes_by item.sub x) ∙ here),
              fewer_waits x (goes_by item.sub x),
              same_pipe x (goes_by item.sub x),
            )
        by_first false here is later =
            let rest = later is in (
              rest.0,
              ap (λ b. cond {A = Option LiveSubscription} b (Some (then x)) (find (goes_by sub) (map then live))) (by_test x (goes_by item.sub x) ∙ here) ∙ rest.1,
              rest.2,
              rest.3,
            )

-- The tables then. --

pub still_fewer : (subs : Subscribed) (item : Option Item) → still (fewer_by item subs) ≡ still subs
still_fewer subs None = refl
still_fewer subs (Some item) = still-with_change subs item.sub one_fewer (λ s. refl)

pub takes_front : TakesFront without_front
takes_front = record { number = λ row. refl; queue = λ row. refl }

pub takes_oldest : TakesFront after_receive
takes_oldest = record { number = λ row. refl; queue = λ row. refl }

module _ (f : PipeOf Item → PipeOf Item) (g : Row → Row) (front : TakesFront f) (seen : (row : PipeOf Item) → row_in (f row) ≡ g (row_in row))
    (before : Inside) (number : ℕ) (pipes : Pipes) (subs : Subscribed) (item : Option Item)
    (takes : pipes ≡ record before.pipes { live = with_pipe f number before.pipes.live })
    (fewer : subs ≡ fewer_by item before.subs) where
  same : still subs ≡ still before.subs
  same = ap still fewer ∙ still_fewer before.subs item

  pub front_tied : AreTied before.pipes before.subs before.routes → item ≡ oldest_on before.pipes.live number → AreTied pipes subs before.routes
  front_tied tied first =
      tied_after before.pipes pipes before.subs subs before.routes tied (ap frame takes) same
      (subst (λ s. AreQueued pipes.live s) (sym fewer)
      (subst (λ (p : Pipes). AreQueued p.live (fewer_by item before.subs)) (sym takes)
      (queued_if f front before.pipes.live before.subs number tied.queued item (sym first))))

  pub front_tables : (now : Tables) → tables_in before.pipes before.subs before.routes ≡ now → tables_in pipes subs before.routes ≡ record now { pipes = with_pipe g number now.pipes }
  front_tables now viewed =
      tables_after before.pipes pipes before.subs subs before.routes (with_pipe g number (map row_in before.pipes.live)) (ap frame takes) same
      (ap (λ (p : Pipes). map row_in p.live) takes ∙ rows_changed f g seen number before.pipes.live)
      ∙ ap (λ (t : Tables). let n : Tables = record t { pipes = with_pipe g number t.pipes } in n) viewed
