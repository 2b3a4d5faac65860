-- A message that is offered to one subscription: what its pipe makes of it, and what waits then.
use Rattle.std.proofs.Common.{◌≡◌, ℕ, ◌+◌, ◌≤◌, Bool, true, false, cond, eqb, leb, List, [], ◌∷◌, ◌++◌, Option, Some, None, map, refl, ap, sym, ◌∙◌, subst, arith}
use Rattle.std.specs.List.{All}
use Rattle.std.specs.Option.{option_map, option_map_or, option_and_then, option_to_list}
use Rattle.std.proofs.lemmas.Bool.{eqb-true, eq-eqb, and_parts, both_ways, false_from_ne_true}
use Rattle.std.proofs.lemmas.List.Elements.{All-map, All-weaker, All-push}
use Rattle.std.proofs.lemmas.List.Sums.{sum_by_push}
use Rattle.pipe_queue.specs.declared.item.Item.{Item}
use Rattle.bus_words.specs.declared.verdict.Verdict.{Verdict}
use Rattle.bus_words.specs.Pipes.{PipeOf, IsRising, cause_of, pipe_at, with_pipe, is_queued, waiting_of, verdict_over, verdict, queue_after, dropped_at, without_front, oldest, oldest_on, offered_over}
use Rattle.bus_words.specs.declared.verdict.Verdict.TheVariants as verdicts
use Rattle.bus_words.proofs.PipeItems.{waiting_of-map, verdict_over-map, dropped_at-map, offered_over-map}
use Rattle.pipe_table.specs.Table.{place_of}
use Rattle.subscriptions.specs.declared.words.SubNo.{SubNo}
use denote.Enum.Bare.{sameb}
use Rattle.subscriptions.specs.contracts.words.Admission.{the_type}
use Rattle.subscriptions.specs.declared.words.SubRow.{SubRow}
use Rattle.subscriptions.specs.declared.words.Admission as own
use Rattle.subscriptions.specs.declared.words.Admission.TheVariants.{Inside, OverLimit}
use Rattle.subscriptions.specs.Subs.{Subscribed, LiveSubscription, row_of, goes_by, live_at, admission_of, one_more, with_change, AreInOrder}
use Rattle.bus_routes.specs.declared.message.Message.{Message}
use Rattle.bus_words.specs.declared.miss.Miss.{Miss}
use Rattle.bus_routes.specs.declared.tables.ItemRow.{ItemRow}
use Rattle.bus_routes.specs.Rows.{Row, item_of, offered_row, row_takes, row_misses, row_drops}
use Rattle.bus_routes.specs.Inside.{item_in, row_in, sub_in, waiting_at, still, IsCounted, IsPlaced, ArePlaced, IsOf, IsQueued, AreQueued}
use Rattle.bus_routes.proofs.OffersLists.{all_both, found_is, found_passes}
use Rattle.bus_routes.proofs.OffersRows.{changed, only_row, pipe_row-with_row, of_row_kept, row_of-rows, rows_changed, rows_kept, rows_alike, one_by_one}
use Rattle.bus_routes.proofs.OffersSubs.{only_sub, still-with_change, all_still, queued_still}

-- a subscription has the slot and number that it goes by
pub goes_by_parts : (sub : SubNo) (s : LiveSubscription) → goes_by sub s ≡ true → (s.slot ≡ sub.slot) × (s.number ≡ sub.number)
goes_by_parts sub s is =
    let both = and_parts (eqb s.slot sub.slot) (eqb s.number sub.number) is in
    (eqb-true s.slot sub.slot both.0, eqb-true s.number sub.number both.1)

-- the pipe with one message more
abbrev pub with_item : Item → PipeOf Item → PipeOf Item
with_item item row = record row { queue = row.queue ++ item ∷ [] }

-- a live subscription's pipe, on which as many of its messages wait as it counts
pub record IsPipe (rows : List (PipeOf Item)) (s : LiveSubscription) (row : PipeOf Item) : Type 0 where
  pub here : pipe_at rows s.pipe ≡ Some row
  pub number : row.number ≡ s.pipe
  pub waits : waiting_at row s.number ≡ s.waiting
  pub only : All (λ other. other.number ≡ row.number → other ≡ row) rows

pub pipe_here : (rows : List (PipeOf Item)) (subs : Subscribed) (sub : SubNo) (s : LiveSubscription) → IsRising 0 rows → AreQueued rows subs → live_at subs sub ≡ Some s → (row : PipeOf Item) × IsPipe rows s row
pipe_here rows subs sub s rising queued live = by_row (pipe_at rows s.pipe) refl (found_is (IsCounted rows) (goes_by sub) subs.live s queued.counted live)
  where
    by_row : (o : Option (PipeOf Item)) → pipe_at rows s.pipe ≡ o → option_map (λ row. waiting_at row s.number) o ≡ Some s.waiting → (row : PipeOf Item) × IsPipe rows s row
    by_row None is counted = absurd (cc (counted))
    by_row (Some row) is counted = (
      row,
      record {
        here = is;
        number = eqb-true row.number s.pipe (found_passes (λ r. eqb r.number s.pipe) rows row is);
        waits = cc (counted);
        only = only_row rows s.pipe row rising is;
      },
    )

-- what is told of a pipe by its verdict
abbrev pub told_by : ℕ → Verdict → List Miss
told_by pipe told = option_map_or (λ cause. record { pipe = pipe; cause = cause } ∷ []) (cause_of told) []

module _ (rows : List (PipeOf Item)) (s : LiveSubscription) (row : PipeOf Item) (pipe : IsPipe rows s row) (message : Message) where
  -- the verdict at the pipe
  abbrev pub verdict_here : Verdict
  verdict_here = verdict_over (leb s.limit s.waiting) row message.sender

  -- as many of the subscription's messages wait there as contracts see
  waits_seen : waiting_of (λ (i : ItemRow). i.subscription) (row_in row) s.number ≡ s.waiting
  waits_seen = waiting_of-map item_in (λ (i : Item). i.sub.number) (λ (i : ItemRow). i.subscription) (λ i. refl) row s.number ∙ pipe.waits

  -- so the verdict is the one that contracts see
  verdict_seen : verdict (λ (i : ItemRow). i.subscription) (row_in row) (sub_in s) message.sender ≡ verdict_here
  verdict_seen =
      ap (λ n. verdict_over (leb s.limit n) (row_in row) message.sender) waits_seen
      ∙ verdict_over-map item_in (leb s.limit s.waiting) row message.sender

  -- what the pipe tells of it
  pub told_is : (n : ℕ) (over : Bool) (told : Verdict) → n ≡ s.pipe → over ≡ leb s.limit s.waiting →
      option_map (λ (p : PipeOf Item). verdict_over over p message.sender) (pipe_at rows n) ≡ Some told → verdict_here ≡ told
  told_is n over told at limit tells =
      let F : Option (PipeOf Item) → Option Verdict = λ o. option_map (λ (p : PipeOf Item). verdict_over over p message.sender) o in
      let same : ◌≡◌ {A = Option Verdict} (Some (verdict_over over row message.sender)) (Some told) = ap F (sym (ap (pipe_at rows) at ∙ pipe.here)) ∙ tells in
      let plain : verdict_over over row message.sender ≡ told = cc (same) in
      ap (λ b. verdict_over b row message.sender) (sym limit) ∙ plain

  -- whether the message reaches the pipe
  pub taken_is : row_takes message (sub_in s) (map row_in rows) ≡ cond {A = ℕ} (is_queued verdict_here) 1 0
  taken_is =
      let F : Option Row → ℕ = λ o. option_map_or (λ (r : Row). cond {A = ℕ} (is_queued (verdict (λ (i : ItemRow). i.subscription) r (sub_in s) message.sender)) 1 0) o 0 in
      ap F (row_of-rows rows s.pipe ∙ ap (option_map row_in) pipe.here) ∙ ap (λ v. cond {A = ℕ} (is_queued v) 1 0) verdict_seen

  -- what is told of the pipe
  pub missed_is : row_misses message (sub_in s) (map row_in rows) ≡ told_by s.pipe verdict_here
  missed_is =
      let F : Option Row → List Miss = λ o. option_map_or (λ cause. record { pipe = s.pipe; cause = cause } ∷ []) (option_and_then (λ (r : Row). cause_of (verdict (λ (i : ItemRow). i.subscription) r (sub_in s) message.sender)) o) [] in
      ap F (row_of-rows rows s.pipe ∙ ap (option_map row_in) pipe.here) ∙ ap (told_by s.pipe) verdict_seen

  -- as contracts see it, the pipe is as the subscription's offer leaves it
  pub offered_rows : (item : Item) → item_in item ≡ item_of message (sub_in s) →
      map row_in (with_pipe (offered_over (leb s.limit s.waiting) message.sender item) s.pipe rows) ≡ with_pipe (offered_row message (sub_in s)) s.pipe (map row_in rows)
  offered_rows item same =
      rows_changed (offered_over (leb s.limit s.waiting) message.sender item) (offered_row message (sub_in s)) s.pipe row rows pipe.number
      (offered_over-map item_in (leb s.limit s.waiting) message.sender item row
      ∙ ap (λ n. offered_over (leb s.limit n) message.sender (item_in item) (row_in row)) (sym waits_seen)
      ∙ ap (λ i. offered_over (leb s.limit (waiting_of (λ (i : ItemRow). i.subscription) (row_in row) s.number)) message.sender i (row_in row)) same)
      pipe.only

  -- what leaves the pipe
  pub dropped_is : row_drops message (sub_in s) (map row_in rows) ≡ option_to_list (option_map item_in (dropped_at verdict_here row.queue))
  dropped_is =
      let F : Option Row → List ItemRow = λ o. option_to_list (option_and_then (λ (r : Row). dropped_at (verdict (λ (i : ItemRow). i.subscription) r (sub_in s) message.sender) r.queue) o) in
      ap F (row_of-rows rows s.pipe ∙ ap (option_map row_in) pipe.here)
      ∙ ap (λ v. option_to_list (dropped_at v (row_in row).queue)) verdict_seen
      ∙ ap (λ o. option_to_list o) (dropped_at-map item_in verdict_here row.queue)

  -- what the pipe tells of that
  pub left_is : (n : ℕ) (told : Verdict) (dropped : Option Item) → n ≡ s.pipe → verdict_here ≡ told →
      dropped ≡ option_and_then (λ (p : PipeOf Item). dropped_at told p.queue) (pipe_at rows n) → dropped ≡ dropped_at verdict_here row.queue
  left_is n told dropped at same is =
      is
      ∙ ap (λ o. option_and_then (λ (p : PipeOf Item). dropped_at told p.queue) o) (ap (pipe_at rows) at ∙ pipe.here)
      ∙ ap (λ v. dropped_at v row.queue) (sym same)

  -- a pipe that doesn't take it stays
  pub stays : (item : Item) → is_queued verdict_here ≡ false → with_pipe (offered_over (leb s.limit s.waiting) message.sender item) s.pipe rows ≡ rows
  stays item out =
      rows_kept (offered_over (leb s.limit s.waiting) message.sender item) s.pipe row rows pipe.number
      (ap (λ q. let r : PipeOf Item = record row { queue = q } in r) (by_verdict verdict_here out)) pipe.only
    where
      by_verdict : (told : Verdict) → is_queued told ≡ false → queue_after told item row.queue ≡ row.queue
      by_verdict verdicts.Skip none = refl
      by_verdict verdicts.OverLimit none = refl
      by_verdict verdicts.In none = absurd (cc (none))
      by_verdict verdicts.Oldest none = absurd (cc (none))
      by_verdict verdicts.Full none = refl

  -- one that has room has it last
  pub goes_on : (item : Item) → verdict_here ≡ verdicts.In → with_pipe (offered_over (leb s.limit s.waiting) message.sender item) s.pipe rows ≡ with_pipe (with_item item) s.pipe rows
  goes_on item takes =
      rows_alike (offered_over (leb s.limit s.waiting) message.sender item) (with_item item) s.pipe row rows pipe.number
      (ap (λ v. let r : PipeOf Item = record row { queue = queue_after v item row.queue } in r) takes) pipe.only

  -- one that drops its oldest item has it last too, and that one leaves first
  pub makes_way : (item : Item) → verdict_here ≡ verdicts.Oldest →
      with_pipe (offered_over (leb s.limit s.waiting) message.sender item) s.pipe rows ≡ with_pipe (with_item item) s.pipe (with_pipe without_front s.pipe rows)
  makes_way item drops =
      rows_alike (offered_over (leb s.limit s.waiting) message.sender item) (λ r. with_item item (without_front r)) s.pipe row rows pipe.number
      (ap (λ v. let r : PipeOf Item = record row { queue = queue_after v item row.queue } in r) drops) pipe.only
      ∙ one_by_one without_front (with_item item) s.pipe rows (λ r. refl)

  -- what such a pipe drops is what waits longest there
  pub oldest_there : (dropped : Option Item) → verdict_here ≡ verdicts.Oldest → dropped ≡ dropped_at verdict_here row.queue → oldest_on rows s.pipe ≡ dropped
  oldest_there dropped drops is =
      ap (λ o. option_and_then (λ (r : PipeOf Item). oldest r.queue) o) pipe.here ∙ sym (is ∙ ap (λ v. dropped_at v row.queue) drops)

-- What waits then. --

module _ (rows : List (PipeOf Item)) (subs : Subscribed) (sub : SubNo) (s : LiveSubscription) (row : PipeOf Item) (item : Item)
    (order : AreInOrder subs) (queued : AreQueued rows subs) (live : live_at subs sub ≡ Some s) (pipe : IsPipe rows s row)
    (own : item.sub ≡ sub) where
  abbrev after : Subscribed
  after = with_change subs sub one_more

  same : still after ≡ still subs
  same = still-with_change subs sub one_more (λ t. refl)

  goes : goes_by sub s ≡ true
  goes = found_passes (goes_by sub) subs.live s live

  only : All (λ t. t.number ≡ s.number → t ≡ s) subs.live
  only = only_sub subs sub s order live

  numbered : item.sub.number ≡ s.number
  numbered = ap (λ (n : SubNo). n.number) own ∙ sym (goes_by_parts sub s goes).1

  -- one message more of the subscription itself
  own_count : IsCounted (with_pipe (with_item item) s.pipe rows) (one_more s)
  own_count =
      let w : PipeOf Item → ℕ = λ r. waiting_at r s.number in
      ap (option_map w) (pipe_row-with_row (with_item item) s.pipe s.pipe rows (λ r. refl) ∙ ap (option_map (changed (with_item item) s.pipe)) pipe.here)
      ∙ ap (λ b. Some (w (cond {A = PipeOf Item} b (with_item item row) row))) (eq-eqb row.number s.pipe pipe.number)
      ∙ ap Some (sum_by_push (λ i. cond {A = ℕ} (eqb i.sub.number s.number) 1 0) row.queue item
      ∙ ap (λ b. waiting_at row s.number + cond {A = ℕ} b 1 0) (eq-eqb item.sub.number s.number numbered)
      ∙ ap (λ n. n + 1) pipe.waits)

  -- no more of another one
  other_count : (t : LiveSubscription) → (t.number ≡ s.number → ⊥) → (r : PipeOf Item) → waiting_at (with_item item r) t.number ≡ waiting_at r t.number
  other_count t other r =
      sum_by_push (λ i. cond {A = ℕ} (eqb i.sub.number t.number) 1 0) r.queue item
      ∙ ap (λ b. waiting_at r t.number + cond {A = ℕ} b 1 0) apart
      ∙ omega arith
    where
      apart : eqb item.sub.number t.number ≡ false
      apart = false_from_ne_true (eqb item.sub.number t.number) (λ equal. other (sym (eqb-true item.sub.number t.number equal) ∙ numbered))

  counted : (t : LiveSubscription) → IsCounted rows t → (t.number ≡ s.number → t ≡ s) → (b : Bool) → goes_by sub t ≡ b →
      IsCounted (with_pipe (with_item item) s.pipe rows) (cond {A = LiveSubscription} b (one_more t) t)
  counted t is single true here =
      let it : t ≡ s = single ((goes_by_parts sub t here).1 ∙ sym (goes_by_parts sub s goes).1) in
      subst (λ u. IsCounted (with_pipe (with_item item) s.pipe rows) (one_more u)) (sym it) own_count
  counted t is single false here =
      of_row_kept (λ r. waiting_at r t.number) (with_item item) s.pipe t.pipe rows (λ r. refl)
      (other_count t (λ equal. both_ways (goes_by sub t) here (ap (goes_by sub) (single equal) ∙ goes)))
      ∙ is

  -- the message itself
  new_item : IsQueued after s.pipe item
  new_item = record {
    made = subst (λ n. n ≤ subs.made) (sym numbered) (found_is (λ t. t.number ≤ subs.made) (goes_by sub) subs.live s order.numbers live);
    own = all_still (IsOf s.pipe item) subs after (λ t is. is) (λ t is. is) same (All-weaker (λ t. t.number ≡ s.number → t ≡ s) (IsOf s.pipe item) its subs.live only);
  }
    where
      its : (t : LiveSubscription) → (t.number ≡ s.number → t ≡ s) → IsOf s.pipe item t
      its t single equal =
          let it : t ≡ s = single (equal ∙ numbered) in
          (ap (λ (u : LiveSubscription). u.slot) it ∙ (goes_by_parts sub s goes).0 ∙ sym (ap (λ (n : SubNo). n.slot) own), ap (λ (u : LiveSubscription). u.pipe) it)

  items : (r : PipeOf Item) → All (IsQueued subs r.number) r.queue → (b : Bool) → eqb r.number s.pipe ≡ b →
      All (IsQueued after (cond {A = PipeOf Item} b (with_item item r) r).number) (cond {A = PipeOf Item} b (with_item item r) r).queue
  items r all b here = by_number b here
    where
      old : All (IsQueued after r.number) r.queue
      old = All-weaker (IsQueued subs r.number) (IsQueued after r.number) (λ i is. queued_still subs after r.number i same is) r.queue all

      by_number : (n : Bool) → eqb r.number s.pipe ≡ n → All (IsQueued after (cond {A = PipeOf Item} n (with_item item r) r).number) (cond {A = PipeOf Item} n (with_item item r) r).queue
      by_number true is = All-push (IsQueued after r.number) r.queue item old (subst (λ n. IsQueued after n item) (sym (eqb-true r.number s.pipe is)) new_item)
      by_number false is = old

  -- what waits is counted
  pub queued_more : AreQueued (with_pipe (with_item item) s.pipe rows) (with_change subs sub one_more)
  queued_more = record {
    counted =
        All-map (IsCounted (with_pipe (with_item item) s.pipe rows)) (λ t. cond {A = LiveSubscription} (goes_by sub t) (one_more t) t) subs.live
        (all_both (IsCounted rows) (λ t. t.number ≡ s.number → t ≡ s) (λ t. IsCounted (with_pipe (with_item item) s.pipe rows) (cond {A = LiveSubscription} (goes_by sub t) (one_more t) t))
        (λ t is single. counted t is single (goes_by sub t) refl) subs.live queued.counted only);
    items =
        All-map (λ r. All (IsQueued after r.number) r.queue) (changed (with_item item) s.pipe) rows
        (All-weaker (λ r. All (IsQueued subs r.number) r.queue) (λ r. All (IsQueued after (changed (with_item item) s.pipe r).number) (changed (with_item item) s.pipe r).queue)
        (λ r all. items r all (eqb r.number s.pipe) refl) rows queued.items);
  }

-- What the calls tell. --

-- the pipe of a live subscription
pub placed_is : (places : List (ℕ × ℕ)) (subs : Subscribed) (sub : SubNo) (s : LiveSubscription) (row : SubRow) → ArePlaced places subs → option_map row_of (live_at subs sub) ≡ Some row → live_at subs sub ≡ Some s →
    place_of places row.pipe ≡ Some row.place
placed_is places subs sub s row placed is live =
    let same : row_of s ≡ row = cc (is, live) in
    subst (λ (r : SubRow). place_of places r.pipe ≡ Some r.place) same (found_is (IsPlaced places) (goes_by sub) subs.live s placed live)

pub pipe_is : (subs : Subscribed) (sub : SubNo) (s : LiveSubscription) (row : SubRow) → option_map row_of (live_at subs sub) ≡ Some row → live_at subs sub ≡ Some s → row.pipe ≡ s.pipe
pipe_is subs sub s row is live =
    let same : row_of s ≡ row = cc (is, live) in
    ap (λ (r : SubRow). r.pipe) (sym same)

-- how many of its messages wait
pub waiting_is : (subs : Subscribed) (sub : SubNo) (s : LiveSubscription) (row : SubRow) → option_map row_of (live_at subs sub) ≡ Some row → live_at subs sub ≡ Some s → row.waiting ≡ s.waiting
waiting_is subs sub s row is live =
    let same : row_of s ≡ row = cc (is, live) in
    ap (λ (r : SubRow). r.waiting) (sym same)

-- the number that it goes by
pub own_number : (subs : Subscribed) (sub : SubNo) (s : LiveSubscription) → live_at subs sub ≡ Some s → sub.number ≡ s.number
own_number subs sub s live = sym (goes_by_parts sub s (found_passes (goes_by sub) subs.live s live)).1

-- whether it is over its limit
pub over_is : (subs : Subscribed) (sub : SubNo) (s : LiveSubscription) (row : SubRow) (over : Bool) (admitted : own.Admission) → option_map row_of (live_at subs sub) ≡ Some row → live_at subs sub ≡ Some s →
    admitted ≡ admission_of row → over ≡ sameb the_type admitted OverLimit → over ≡ leb s.limit s.waiting
over_is subs sub s row over admitted at live is told =
    let same : row_of s ≡ row = cc (at, live) in
    told ∙ ap (λ v. sameb the_type v OverLimit) (is ∙ ap admission_of (sym same)) ∙ by_test (leb s.limit s.waiting)
  where
    by_test : (b : Bool) → sameb the_type (cond {A = own.Admission} b OverLimit Inside) OverLimit ≡ b
    by_test true = refl
    by_test false = refl
