-- What an offer leaves, by the verdict at the subscription's pipe.
use Rattle.std.proofs.Common.{◌≡◌, ℕ, Bool, List, [], ◌∷◌, ◌++◌, map, leb, cond, refl, ap, sym, ◌∙◌, subst, arith, Option, Some, is_some}
use Rattle.std.specs.Option.{option_map, option_to_list}
use Rattle.std.proofs.lemmas.List.{append-nil}
use Rattle.pipe_queue.specs.declared.item.Item.{Item}
use Rattle.bus_words.specs.Pipes.{with_pipe, without_front, offered_over, is_queued, dropped_at}
use Rattle.pipe_table.specs.Table.{Pipes}
use Rattle.subscriptions.specs.Subs.{LiveSubscription, live_at, one_more, with_change}
use Rattle.bus_routes.specs.Missed.{Missed}
use Rattle.bus_words.specs.declared.miss.Miss.{Miss}
use Rattle.bus_words.specs.declared.miss.MissCause.TheVariants.{OverLimit, Full, Oldest}
use Rattle.bus_routes.specs.declared.tables.ItemRow.{ItemRow}
use Rattle.bus_routes.specs.Rows.{row_misses, row_drops}
use Rattle.bus_routes.specs.Inside.{AreQueued, item_in, row_in, sub_in, still}
use Rattle.bus_routes.proofs.Offers.{pipe_here, pipe_is, waiting_is, placed_is, over_is, told_by, told_is, taken_is, missed_is, dropped_is, left_is, offered_rows, stays, goes_on, makes_way, oldest_there, own_number, with_item, queued_more}
use Rattle.bus_routes.proofs.OffersLists.{some_there}
use Rattle.bus_routes.proofs.OffersRows.{rising_after}
use Rattle.bus_routes.proofs.Takes.{takes_front, waits_if, queued_if, still_fewer, live_fewer}
use Rattle.bus_routes.proofs.OffersSubs.{still-with_change}
use Rattle.bus_routes.proofs.delivery.offer.Goals as goal

-- what was missed and dropped, with more behind it
abbrev behind : Missed → List Miss → List ItemRow → Missed
behind misses more drops = record misses { items = misses.items ++ more; dropped = misses.dropped ++ drops }

-- if nothing more was dropped
drops_none : (misses : Missed) (more : List Miss) (drops : List ItemRow) → drops ≡ [] → record misses { items = misses.items ++ more } ≡ behind misses more drops
drops_none misses more drops none =
    sym (ap (behind misses more) none ∙ ap (λ l. let m : Missed = record misses { items = misses.items ++ more; dropped = l } in m) (append-nil misses.dropped))

-- with nothing more it stays
stays_so : (misses : Missed) (more : List Miss) (drops : List ItemRow) → more ≡ [] → drops ≡ [] → misses ≡ behind misses more drops
stays_so misses more drops none no_drop =
    sym (ap (λ l. behind misses l drops) none ∙ sym (drops_none misses [] drops no_drop) ∙ ap (λ l. let m : Missed = record misses { items = l } in m) (append-nil misses.items))

-- the pipes that are left
left : (before after : Pipes) (sender : ℕ) (told over : Bool) (item : Item) (n pipe : ℕ) → n ≡ pipe → told ≡ over →
    after ≡ record before { live = with_pipe (offered_over told sender item) n before.live } → after.live ≡ with_pipe (offered_over over sender item) pipe before.live
left before after sender told over item n pipe number limit is =
    ap (λ (p : Pipes). p.live) is
    ∙ ap (λ m. with_pipe (offered_over told sender item) m before.live) number
    ∙ ap (λ b. with_pipe (offered_over b sender item) pipe before.live) limit

-- the item that contracts see
item_seen : (number desc n m : ℕ) → n ≡ m → ◌≡◌ {A = ItemRow} (record { number = number; desc = desc; subscription = n }) (record { number = number; desc = desc; subscription = m })
item_seen number desc n m same = ap (λ k. let i : ItemRow = record { number = number; desc = desc; subscription = k } in i) same

pub offer-offered-requires : goal.offer-offered-requires
offer-offered-requires c =
    let it = some_there (live_at c.args.subs.now c.args.sub) c.requires.live in
    record { live = placed_is c.args.pipes.now.places c.args.subs.now c.args.sub it.0 c.at-row.result c.requires.placed c.at-row.ensures it.1 }

-- If the pipe ignores the sender. --

pub returns-in-Skip-clause-rows : goal.returns-in-Skip-clause-rows
returns-in-Skip-clause-rows c = λ x live.
    let found = pipe_here c.args.pipes.now.live c.args.subs.now c.args.sub x c.recall_order.ensures.order c.requires.queued live in
    let number = pipe_is c.args.subs.now c.args.sub x c.at-row.result c.at-row.ensures live in
    let over = over_is c.args.subs.now c.args.sub x c.at-row.result c.eq-is_over.result c.admission.result c.at-row.ensures live c.admission.ensures c.eq-is_over.ensures in
    let item : Item = record { desc = c.args.message.now.desc; number = c.args.message.now.number; sub = c.args.sub } in
    let after = left c.args.pipes.now c.offer-offered.new.self c.args.message.now.sender c.eq-is_over.result (leb x.limit x.waiting) item c.at-row.result.pipe x.pipe number over c.offer-offered.ensures.after in
    ap (map row_in) after
    ∙ offered_rows c.args.pipes.now.live x found.0 found.1 c.args.message.now item
    (item_seen c.args.message.now.number c.args.message.now.desc c.args.sub.number x.number (own_number c.args.subs.now c.args.sub x live))

pub returns-in-Skip-clause-taken : goal.returns-in-Skip-clause-taken
returns-in-Skip-clause-taken c = λ x live.
    let found = pipe_here c.args.pipes.now.live c.args.subs.now c.args.sub x c.recall_order.ensures.order c.requires.queued live in
    let number = pipe_is c.args.subs.now c.args.sub x c.at-row.result c.at-row.ensures live in
    let over = over_is c.args.subs.now c.args.sub x c.at-row.result c.eq-is_over.result c.admission.result c.at-row.ensures live c.admission.ensures c.eq-is_over.ensures in
    let told = told_is c.args.pipes.now.live x found.0 found.1 c.args.message.now c.at-row.result.pipe c.eq-is_over.result c.offer-offered.result.verdict number over c.offer-offered.ensures.told ∙ c.in-Skip.is in
    sym (taken_is c.args.pipes.now.live x found.0 found.1 c.args.message.now ∙ ap (λ v. cond {A = ℕ} (is_queued v) 1 0) told)

pub returns-in-Skip-clause-missed : goal.returns-in-Skip-clause-missed
returns-in-Skip-clause-missed c = λ x live.
    let found = pipe_here c.args.pipes.now.live c.args.subs.now c.args.sub x c.recall_order.ensures.order c.requires.queued live in
    let number = pipe_is c.args.subs.now c.args.sub x c.at-row.result c.at-row.ensures live in
    let over = over_is c.args.subs.now c.args.sub x c.at-row.result c.eq-is_over.result c.admission.result c.at-row.ensures live c.admission.ensures c.eq-is_over.ensures in
    let told = told_is c.args.pipes.now.live x found.0 found.1 c.args.message.now c.at-row.result.pipe c.eq-is_over.result c.offer-offered.result.verdict number over c.offer-offered.ensures.told ∙ c.in-Skip.is in
    stays_so c.args.misses.now (row_misses c.args.message.now (sub_in x) (map row_in c.args.pipes.now.live)) (row_drops c.args.message.now (sub_in x) (map row_in c.args.pipes.now.live))
    (missed_is c.args.pipes.now.live x found.0 found.1 c.args.message.now ∙ ap (told_by x.pipe) told)
    (dropped_is c.args.pipes.now.live x found.0 found.1 c.args.message.now ∙ ap (λ v. option_to_list (option_map item_in (dropped_at v found.0.queue))) told)

pub returns-in-Skip-clause-queued : goal.returns-in-Skip-clause-queued
returns-in-Skip-clause-queued c =
    let it = some_there (live_at c.args.subs.now c.args.sub) c.requires.live in
    let x = it.0 in
    let live = it.1 in
    let found = pipe_here c.args.pipes.now.live c.args.subs.now c.args.sub x c.recall_order.ensures.order c.requires.queued live in
    let number = pipe_is c.args.subs.now c.args.sub x c.at-row.result c.at-row.ensures live in
    let over = over_is c.args.subs.now c.args.sub x c.at-row.result c.eq-is_over.result c.admission.result c.at-row.ensures live c.admission.ensures c.eq-is_over.ensures in
    let told = told_is c.args.pipes.now.live x found.0 found.1 c.args.message.now c.at-row.result.pipe c.eq-is_over.result c.offer-offered.result.verdict number over c.offer-offered.ensures.told ∙ c.in-Skip.is in
    let item : Item = record { desc = c.args.message.now.desc; number = c.args.message.now.number; sub = c.args.sub } in
    let after = left c.args.pipes.now c.offer-offered.new.self c.args.message.now.sender c.eq-is_over.result (leb x.limit x.waiting) item c.at-row.result.pipe x.pipe number over c.offer-offered.ensures.after in
    subst (λ rows. AreQueued rows c.args.subs.now) (sym (after ∙ stays c.args.pipes.now.live x found.0 found.1 c.args.message.now item (ap is_queued told))) c.requires.queued

-- If the subscription is at its limit. --

pub returns-in-OverLimit-clause-rows : goal.returns-in-OverLimit-clause-rows
returns-in-OverLimit-clause-rows c = λ x live.
    let found = pipe_here c.args.pipes.now.live c.args.subs.now c.args.sub x c.recall_order.ensures.order c.requires.queued live in
    let number = pipe_is c.args.subs.now c.args.sub x c.at-row.result c.at-row.ensures live in
    let over = over_is c.args.subs.now c.args.sub x c.at-row.result c.eq-is_over.result c.admission.result c.at-row.ensures live c.admission.ensures c.eq-is_over.ensures in
    let item : Item = record { desc = c.args.message.now.desc; number = c.args.message.now.number; sub = c.args.sub } in
    let after = left c.args.pipes.now c.offer-offered.new.self c.args.message.now.sender c.eq-is_over.result (leb x.limit x.waiting) item c.at-row.result.pipe x.pipe number over c.offer-offered.ensures.after in
    ap (map row_in) after
    ∙ offered_rows c.args.pipes.now.live x found.0 found.1 c.args.message.now item
    (item_seen c.args.message.now.number c.args.message.now.desc c.args.sub.number x.number (own_number c.args.subs.now c.args.sub x live))

pub returns-in-OverLimit-clause-taken : goal.returns-in-OverLimit-clause-taken
returns-in-OverLimit-clause-taken c = λ x live.
    let found = pipe_here c.args.pipes.now.live c.args.subs.now c.args.sub x c.recall_order.ensures.order c.requires.queued live in
    let number = pipe_is c.args.subs.now c.args.sub x c.at-row.result c.at-row.ensures live in
    let over = over_is c.args.subs.now c.args.sub x c.at-row.result c.eq-is_over.result c.admission.result c.at-row.ensures live c.admission.ensures c.eq-is_over.ensures in
    let told = told_is c.args.pipes.now.live x found.0 found.1 c.args.message.now c.at-row.result.pipe c.eq-is_over.result c.offer-offered.result.verdict number over c.offer-offered.ensures.told ∙ c.in-OverLimit.is in
    sym (taken_is c.args.pipes.now.live x found.0 found.1 c.args.message.now ∙ ap (λ v. cond {A = ℕ} (is_queued v) 1 0) told)

pub returns-in-OverLimit-clause-missed : goal.returns-in-OverLimit-clause-missed
returns-in-OverLimit-clause-missed c = λ x live.
    let found = pipe_here c.args.pipes.now.live c.args.subs.now c.args.sub x c.recall_order.ensures.order c.requires.queued live in
    let number = pipe_is c.args.subs.now c.args.sub x c.at-row.result c.at-row.ensures live in
    let over = over_is c.args.subs.now c.args.sub x c.at-row.result c.eq-is_over.result c.admission.result c.at-row.ensures live c.admission.ensures c.eq-is_over.ensures in
    let told = told_is c.args.pipes.now.live x found.0 found.1 c.args.message.now c.at-row.result.pipe c.eq-is_over.result c.offer-offered.result.verdict number over c.offer-offered.ensures.told ∙ c.in-OverLimit.is in
    let drops = row_drops c.args.message.now (sub_in x) (map row_in c.args.pipes.now.live) in
    c.push.ensures
    ∙ drops_none c.args.misses.now (record { pipe = c.at.result.pipe; cause = OverLimit } ∷ []) drops (dropped_is c.args.pipes.now.live x found.0 found.1 c.args.message.now ∙ ap (λ v. option_to_list (option_map item_in (dropped_at v found.0.queue))) told)
    ∙ ap (λ n. behind c.args.misses.now (record { pipe = n; cause = OverLimit } ∷ []) drops) (pipe_is c.args.subs.now c.args.sub x c.at.result c.at.ensures live)
    ∙ ap (λ l. behind c.args.misses.now l drops) (sym (missed_is c.args.pipes.now.live x found.0 found.1 c.args.message.now ∙ ap (told_by x.pipe) told))

pub returns-in-OverLimit-clause-queued : goal.returns-in-OverLimit-clause-queued
returns-in-OverLimit-clause-queued c =
    let it = some_there (live_at c.args.subs.now c.args.sub) c.requires.live in
    let x = it.0 in
    let live = it.1 in
    let found = pipe_here c.args.pipes.now.live c.args.subs.now c.args.sub x c.recall_order.ensures.order c.requires.queued live in
    let number = pipe_is c.args.subs.now c.args.sub x c.at-row.result c.at-row.ensures live in
    let over = over_is c.args.subs.now c.args.sub x c.at-row.result c.eq-is_over.result c.admission.result c.at-row.ensures live c.admission.ensures c.eq-is_over.ensures in
    let told = told_is c.args.pipes.now.live x found.0 found.1 c.args.message.now c.at-row.result.pipe c.eq-is_over.result c.offer-offered.result.verdict number over c.offer-offered.ensures.told ∙ c.in-OverLimit.is in
    let item : Item = record { desc = c.args.message.now.desc; number = c.args.message.now.number; sub = c.args.sub } in
    let after = left c.args.pipes.now c.offer-offered.new.self c.args.message.now.sender c.eq-is_over.result (leb x.limit x.waiting) item c.at-row.result.pipe x.pipe number over c.offer-offered.ensures.after in
    subst (λ rows. AreQueued rows c.args.subs.now) (sym (after ∙ stays c.args.pipes.now.live x found.0 found.1 c.args.message.now item (ap is_queued told))) c.requires.queued

-- If the pipe is full. --

pub returns-in-Full-clause-rows : goal.returns-in-Full-clause-rows
returns-in-Full-clause-rows c = λ x live.
    let found = pipe_here c.args.pipes.now.live c.args.subs.now c.args.sub x c.recall_order.ensures.order c.requires.queued live in
    let number = pipe_is c.args.subs.now c.args.sub x c.at-row.result c.at-row.ensures live in
    let over = over_is c.args.subs.now c.args.sub x c.at-row.result c.eq-is_over.result c.admission.result c.at-row.ensures live c.admission.ensures c.eq-is_over.ensures in
    let item : Item = record { desc = c.args.message.now.desc; number = c.args.message.now.number; sub = c.args.sub } in
    let after = left c.args.pipes.now c.offer-offered.new.self c.args.message.now.sender c.eq-is_over.result (leb x.limit x.waiting) item c.at-row.result.pipe x.pipe number over c.offer-offered.ensures.after in
    ap (map row_in) after
    ∙ offered_rows c.args.pipes.now.live x found.0 found.1 c.args.message.now item
    (item_seen c.args.message.now.number c.args.message.now.desc c.args.sub.number x.number (own_number c.args.subs.now c.args.sub x live))

pub returns-in-Full-clause-taken : goal.returns-in-Full-clause-taken
returns-in-Full-clause-taken c = λ x live.
    let found = pipe_here c.args.pipes.now.live c.args.subs.now c.args.sub x c.recall_order.ensures.order c.requires.queued live in
    let number = pipe_is c.args.subs.now c.args.sub x c.at-row.result c.at-row.ensures live in
    let over = over_is c.args.subs.now c.args.sub x c.at-row.result c.eq-is_over.result c.admission.result c.at-row.ensures live c.admission.ensures c.eq-is_over.ensures in
    let told = told_is c.args.pipes.now.live x found.0 found.1 c.args.message.now c.at-row.result.pipe c.eq-is_over.result c.offer-offered.result.verdict number over c.offer-offered.ensures.told ∙ c.in-Full.is in
    sym (taken_is c.args.pipes.now.live x found.0 found.1 c.args.message.now ∙ ap (λ v. cond {A = ℕ} (is_queued v) 1 0) told)

pub returns-in-Full-clause-missed : goal.returns-in-Full-clause-missed
returns-in-Full-clause-missed c = λ x live.
    let found = pipe_here c.args.pipes.now.live c.args.subs.now c.args.sub x c.recall_order.ensures.order c.requires.queued live in
    let number = pipe_is c.args.subs.now c.args.sub x c.at-row.result c.at-row.ensures live in
    let over = over_is c.args.subs.now c.args.sub x c.at-row.result c.eq-is_over.result c.admission.result c.at-row.ensures live c.admission.ensures c.eq-is_over.ensures in
    let told = told_is c.args.pipes.now.live x found.0 found.1 c.args.message.now c.at-row.result.pipe c.eq-is_over.result c.offer-offered.result.verdict number over c.offer-offered.ensures.told ∙ c.in-Full.is in
    let drops = row_drops c.args.message.now (sub_in x) (map row_in c.args.pipes.now.live) in
    c.push-in-Full.ensures
    ∙ drops_none c.args.misses.now (record { pipe = c.at-in-Full.result.pipe; cause = Full } ∷ []) drops (dropped_is c.args.pipes.now.live x found.0 found.1 c.args.message.now ∙ ap (λ v. option_to_list (option_map item_in (dropped_at v found.0.queue))) told)
    ∙ ap (λ n. behind c.args.misses.now (record { pipe = n; cause = Full } ∷ []) drops) (pipe_is c.args.subs.now c.args.sub x c.at-in-Full.result c.at-in-Full.ensures live)
    ∙ ap (λ l. behind c.args.misses.now l drops) (sym (missed_is c.args.pipes.now.live x found.0 found.1 c.args.message.now ∙ ap (told_by x.pipe) told))

pub returns-in-Full-clause-queued : goal.returns-in-Full-clause-queued
returns-in-Full-clause-queued c =
    let it = some_there (live_at c.args.subs.now c.args.sub) c.requires.live in
    let x = it.0 in
    let live = it.1 in
    let found = pipe_here c.args.pipes.now.live c.args.subs.now c.args.sub x c.recall_order.ensures.order c.requires.queued live in
    let number = pipe_is c.args.subs.now c.args.sub x c.at-row.result c.at-row.ensures live in
    let over = over_is c.args.subs.now c.args.sub x c.at-row.result c.eq-is_over.result c.admission.result c.at-row.ensures live c.admission.ensures c.eq-is_over.ensures in
    let told = told_is c.args.pipes.now.live x found.0 found.1 c.args.message.now c.at-row.result.pipe c.eq-is_over.result c.offer-offered.result.verdict number over c.offer-offered.ensures.told ∙ c.in-Full.is in
    let item : Item = record { desc = c.args.message.now.desc; number = c.args.message.now.number; sub = c.args.sub } in
    let after = left c.args.pipes.now c.offer-offered.new.self c.args.message.now.sender c.eq-is_over.result (leb x.limit x.waiting) item c.at-row.result.pipe x.pipe number over c.offer-offered.ensures.after in
    subst (λ rows. AreQueued rows c.args.subs.now) (sym (after ∙ stays c.args.pipes.now.live x found.0 found.1 c.args.message.now item (ap is_queued told))) c.requires.queued

-- If the pipe takes it. --

pub returns-in-In-clause-rows : goal.returns-in-In-clause-rows
returns-in-In-clause-rows c = λ x live.
    let found = pipe_here c.args.pipes.now.live c.args.subs.now c.args.sub x c.recall_order.ensures.order c.requires.queued live in
    let number = pipe_is c.args.subs.now c.args.sub x c.at-row.result c.at-row.ensures live in
    let over = over_is c.args.subs.now c.args.sub x c.at-row.result c.eq-is_over.result c.admission.result c.at-row.ensures live c.admission.ensures c.eq-is_over.ensures in
    let item : Item = record { desc = c.args.message.now.desc; number = c.args.message.now.number; sub = c.args.sub } in
    let after = left c.args.pipes.now c.offer-offered.new.self c.args.message.now.sender c.eq-is_over.result (leb x.limit x.waiting) item c.at-row.result.pipe x.pipe number over c.offer-offered.ensures.after in
    ap (map row_in) after
    ∙ offered_rows c.args.pipes.now.live x found.0 found.1 c.args.message.now item
    (item_seen c.args.message.now.number c.args.message.now.desc c.args.sub.number x.number (own_number c.args.subs.now c.args.sub x live))

pub returns-in-In-clause-taken : goal.returns-in-In-clause-taken
returns-in-In-clause-taken c = λ x live.
    let found = pipe_here c.args.pipes.now.live c.args.subs.now c.args.sub x c.recall_order.ensures.order c.requires.queued live in
    let number = pipe_is c.args.subs.now c.args.sub x c.at-row.result c.at-row.ensures live in
    let over = over_is c.args.subs.now c.args.sub x c.at-row.result c.eq-is_over.result c.admission.result c.at-row.ensures live c.admission.ensures c.eq-is_over.ensures in
    let told = told_is c.args.pipes.now.live x found.0 found.1 c.args.message.now c.at-row.result.pipe c.eq-is_over.result c.offer-offered.result.verdict number over c.offer-offered.ensures.told ∙ c.in-In.is in
    sym (taken_is c.args.pipes.now.live x found.0 found.1 c.args.message.now ∙ ap (λ v. cond {A = ℕ} (is_queued v) 1 0) told)

pub returns-in-In-clause-missed : goal.returns-in-In-clause-missed
returns-in-In-clause-missed c = λ x live.
    let found = pipe_here c.args.pipes.now.live c.args.subs.now c.args.sub x c.recall_order.ensures.order c.requires.queued live in
    let number = pipe_is c.args.subs.now c.args.sub x c.at-row.result c.at-row.ensures live in
    let over = over_is c.args.subs.now c.args.sub x c.at-row.result c.eq-is_over.result c.admission.result c.at-row.ensures live c.admission.ensures c.eq-is_over.ensures in
    let told = told_is c.args.pipes.now.live x found.0 found.1 c.args.message.now c.at-row.result.pipe c.eq-is_over.result c.offer-offered.result.verdict number over c.offer-offered.ensures.told ∙ c.in-In.is in
    stays_so c.args.misses.now (row_misses c.args.message.now (sub_in x) (map row_in c.args.pipes.now.live)) (row_drops c.args.message.now (sub_in x) (map row_in c.args.pipes.now.live))
    (missed_is c.args.pipes.now.live x found.0 found.1 c.args.message.now ∙ ap (told_by x.pipe) told)
    (dropped_is c.args.pipes.now.live x found.0 found.1 c.args.message.now ∙ ap (λ v. option_to_list (option_map item_in (dropped_at v found.0.queue))) told)

pub returns-in-In-clause-subs : goal.returns-in-In-clause-subs
returns-in-In-clause-subs c = ap still c.add_waiting.ensures ∙ still-with_change c.args.subs.now c.args.sub one_more (λ s. refl)

pub returns-in-In-clause-queued : goal.returns-in-In-clause-queued
returns-in-In-clause-queued c =
    let it = some_there (live_at c.args.subs.now c.args.sub) c.requires.live in
    let x = it.0 in
    let live = it.1 in
    let found = pipe_here c.args.pipes.now.live c.args.subs.now c.args.sub x c.recall_order.ensures.order c.requires.queued live in
    let number = pipe_is c.args.subs.now c.args.sub x c.at-row.result c.at-row.ensures live in
    let over = over_is c.args.subs.now c.args.sub x c.at-row.result c.eq-is_over.result c.admission.result c.at-row.ensures live c.admission.ensures c.eq-is_over.ensures in
    let told = told_is c.args.pipes.now.live x found.0 found.1 c.args.message.now c.at-row.result.pipe c.eq-is_over.result c.offer-offered.result.verdict number over c.offer-offered.ensures.told ∙ c.in-In.is in
    let item : Item = record { desc = c.args.message.now.desc; number = c.args.message.now.number; sub = c.args.sub } in
    let after = left c.args.pipes.now c.offer-offered.new.self c.args.message.now.sender c.eq-is_over.result (leb x.limit x.waiting) item c.at-row.result.pipe x.pipe number over c.offer-offered.ensures.after in
    subst (λ s. AreQueued c.offer-offered.new.self.live s) (sym c.add_waiting.ensures)
    (subst (λ l. AreQueued l (with_change c.args.subs.now c.args.sub one_more)) (sym (after ∙ goes_on c.args.pipes.now.live x found.0 found.1 c.args.message.now item told))
    (queued_more c.args.pipes.now.live c.args.subs.now c.args.sub x found.0 item c.recall_order-2.ensures c.requires.queued live found.1 refl))

-- If the pipe drops its oldest message for it. --

pub count_down-requires : goal.count_down-requires
count_down-requires c =
    let it = some_there (live_at c.args.subs.now c.args.sub) c.requires.live in
    let x = it.0 in
    let live = it.1 in
    let found = pipe_here c.args.pipes.now.live c.args.subs.now c.args.sub x c.recall_order.ensures.order c.requires.queued live in
    let number = pipe_is c.args.subs.now c.args.sub x c.at-row.result c.at-row.ensures live in
    let over = over_is c.args.subs.now c.args.sub x c.at-row.result c.eq-is_over.result c.admission.result c.at-row.ensures live c.admission.ensures c.eq-is_over.ensures in
    let told = told_is c.args.pipes.now.live x found.0 found.1 c.args.message.now c.at-row.result.pipe c.eq-is_over.result c.offer-offered.result.verdict number over c.offer-offered.ensures.told ∙ c.in-Oldest.is in
    let gone = left_is c.args.pipes.now.live x found.0 found.1 c.args.message.now c.at-row.result.pipe c.offer-offered.result.verdict c.offer-offered.result.dropped number
    (told ∙ sym c.in-Oldest.is) c.offer-offered.ensures.dropped in
    let first = oldest_there c.args.pipes.now.live x found.0 found.1 c.args.message.now c.offer-offered.result.dropped told gone in
    waits_if without_front takes_front c.args.pipes.now.live c.args.subs.now x.pipe c.requires.queued c.offer-offered.result.dropped first

pub add_waiting-requires-in-Oldest-clause-live : goal.add_waiting-requires-in-Oldest-clause-live
add_waiting-requires-in-Oldest-clause-live c =
    let it = some_there (live_at c.args.subs.now c.args.sub) c.requires.live in
    ap is_some (ap (λ s. live_at s c.args.sub) c.count_down.ensures ∙ (live_fewer c.args.subs.now c.args.sub it.0 c.offer-offered.result.dropped it.1).1)

pub add_waiting-requires-in-Oldest-clause-few : goal.add_waiting-requires-in-Oldest-clause-few
add_waiting-requires-in-Oldest-clause-few c = λ y live_now.
    let it = some_there (live_at c.args.subs.now c.args.sub) c.requires.live in
    let t = live_fewer c.args.subs.now c.args.sub it.0 c.offer-offered.result.dropped it.1 in
    let same : ◌≡◌ {A = Option LiveSubscription} (Some t.0) (Some y) = sym t.1 ∙ ap (λ s. live_at s c.args.sub) (sym c.count_down.ensures) ∙ live_now in
    let mine : t.0 ≡ y = cc (same) in
    let waits = waiting_is c.args.subs.now c.args.sub it.0 c.at-row.result c.at-row.ensures it.1 in
    omega (arith, ap (λ (s : LiveSubscription). s.waiting) mine, t.2, waits, c.if-prove.false)

pub returns-in-Oldest-clause-rows : goal.returns-in-Oldest-clause-rows
returns-in-Oldest-clause-rows c = λ x live.
    let found = pipe_here c.args.pipes.now.live c.args.subs.now c.args.sub x c.recall_order.ensures.order c.requires.queued live in
    let number = pipe_is c.args.subs.now c.args.sub x c.at-row.result c.at-row.ensures live in
    let over = over_is c.args.subs.now c.args.sub x c.at-row.result c.eq-is_over.result c.admission.result c.at-row.ensures live c.admission.ensures c.eq-is_over.ensures in
    let item : Item = record { desc = c.args.message.now.desc; number = c.args.message.now.number; sub = c.args.sub } in
    let after = left c.args.pipes.now c.offer-offered.new.self c.args.message.now.sender c.eq-is_over.result (leb x.limit x.waiting) item c.at-row.result.pipe x.pipe number over c.offer-offered.ensures.after in
    ap (map row_in) after
    ∙ offered_rows c.args.pipes.now.live x found.0 found.1 c.args.message.now item
    (item_seen c.args.message.now.number c.args.message.now.desc c.args.sub.number x.number (own_number c.args.subs.now c.args.sub x live))

pub returns-in-Oldest-clause-taken : goal.returns-in-Oldest-clause-taken
returns-in-Oldest-clause-taken c = λ x live.
    let found = pipe_here c.args.pipes.now.live c.args.subs.now c.args.sub x c.recall_order.ensures.order c.requires.queued live in
    let number = pipe_is c.args.subs.now c.args.sub x c.at-row.result c.at-row.ensures live in
    let over = over_is c.args.subs.now c.args.sub x c.at-row.result c.eq-is_over.result c.admission.result c.at-row.ensures live c.admission.ensures c.eq-is_over.ensures in
    let told = told_is c.args.pipes.now.live x found.0 found.1 c.args.message.now c.at-row.result.pipe c.eq-is_over.result c.offer-offered.result.verdict number over c.offer-offered.ensures.told ∙ c.in-Oldest.is in
    sym (taken_is c.args.pipes.now.live x found.0 found.1 c.args.message.now ∙ ap (λ v. cond {A = ℕ} (is_queued v) 1 0) told)

pub returns-in-Oldest-clause-missed : goal.returns-in-Oldest-clause-missed
returns-in-Oldest-clause-missed c = λ x live.
    let found = pipe_here c.args.pipes.now.live c.args.subs.now c.args.sub x c.recall_order.ensures.order c.requires.queued live in
    let number = pipe_is c.args.subs.now c.args.sub x c.at-row.result c.at-row.ensures live in
    let over = over_is c.args.subs.now c.args.sub x c.at-row.result c.eq-is_over.result c.admission.result c.at-row.ensures live c.admission.ensures c.eq-is_over.ensures in
    let told = told_is c.args.pipes.now.live x found.0 found.1 c.args.message.now c.at-row.result.pipe c.eq-is_over.result c.offer-offered.result.verdict number over c.offer-offered.ensures.told ∙ c.in-Oldest.is in
    let gone = left_is c.args.pipes.now.live x found.0 found.1 c.args.message.now c.at-row.result.pipe c.offer-offered.result.verdict c.offer-offered.result.dropped number
    (told ∙ sym c.in-Oldest.is) c.offer-offered.ensures.dropped in
    let drops : option_to_list c.item_row.result ≡ row_drops c.args.message.now (sub_in x) (map row_in c.args.pipes.now.live) =
    ap (λ o. option_to_list o) (c.item_row.ensures ∙ ap (option_map item_in) gone) ∙ sym (dropped_is c.args.pipes.now.live x found.0 found.1 c.args.message.now) in
    c.push_drop.ensures
    ∙ ap (λ n. behind c.args.misses.now (record { pipe = n; cause = Oldest } ∷ []) (option_to_list c.item_row.result)) (pipe_is c.args.subs.now c.args.sub x c.at-in-Oldest.result c.at-in-Oldest.ensures live)
    ∙ ap (λ l. behind c.args.misses.now l (option_to_list c.item_row.result)) (sym (missed_is c.args.pipes.now.live x found.0 found.1 c.args.message.now ∙ ap (told_by x.pipe) told))
    ∙ ap (behind c.args.misses.now (row_misses c.args.message.now (sub_in x) (map row_in c.args.pipes.now.live))) drops

pub returns-in-Oldest-clause-subs : goal.returns-in-Oldest-clause-subs
returns-in-Oldest-clause-subs c =
    ap still c.add_waiting-in-Oldest.ensures
    ∙ still-with_change c.count_down.new.subs c.args.sub one_more (λ s. refl)
    ∙ ap still c.count_down.ensures
    ∙ still_fewer c.args.subs.now c.offer-offered.result.dropped

pub returns-in-Oldest-clause-queued : goal.returns-in-Oldest-clause-queued
returns-in-Oldest-clause-queued c =
    let it = some_there (live_at c.args.subs.now c.args.sub) c.requires.live in
    let x = it.0 in
    let live = it.1 in
    let found = pipe_here c.args.pipes.now.live c.args.subs.now c.args.sub x c.recall_order.ensures.order c.requires.queued live in
    let number = pipe_is c.args.subs.now c.args.sub x c.at-row.result c.at-row.ensures live in
    let over = over_is c.args.subs.now c.args.sub x c.at-row.result c.eq-is_over.result c.admission.result c.at-row.ensures live c.admission.ensures c.eq-is_over.ensures in
    let told = told_is c.args.pipes.now.live x found.0 found.1 c.args.message.now c.at-row.result.pipe c.eq-is_over.result c.offer-offered.result.verdict number over c.offer-offered.ensures.told ∙ c.in-Oldest.is in
    let gone = left_is c.args.pipes.now.live x found.0 found.1 c.args.message.now c.at-row.result.pipe c.offer-offered.result.verdict c.offer-offered.result.dropped number
    (told ∙ sym c.in-Oldest.is) c.offer-offered.ensures.dropped in
    let first = oldest_there c.args.pipes.now.live x found.0 found.1 c.args.message.now c.offer-offered.result.dropped told gone in
    let item : Item = record { desc = c.args.message.now.desc; number = c.args.message.now.number; sub = c.args.sub } in
    let after = left c.args.pipes.now c.offer-offered.new.self c.args.message.now.sender c.eq-is_over.result (leb x.limit x.waiting) item c.at-row.result.pipe x.pipe number over c.offer-offered.ensures.after in
    let rows = with_pipe without_front x.pipe c.args.pipes.now.live in
    let queued : AreQueued rows c.count_down.new.subs =
    subst (λ s. AreQueued rows s) (sym c.count_down.ensures)
    (queued_if without_front takes_front c.args.pipes.now.live c.args.subs.now x.pipe c.requires.queued c.offer-offered.result.dropped first) in
    let t = live_fewer c.args.subs.now c.args.sub x c.offer-offered.result.dropped live in
    let live_now : live_at c.count_down.new.subs c.args.sub ≡ Some t.0 = ap (λ s. live_at s c.args.sub) c.count_down.ensures ∙ t.1 in
    let rising = rising_after without_front x.pipe 0 c.args.pipes.now.live (λ r. refl) c.recall_order.ensures.order in
    let pipe = pipe_here rows c.count_down.new.subs c.args.sub t.0 rising queued live_now in
    subst (λ s. AreQueued c.offer-offered.new.self.live s) (sym c.add_waiting-in-Oldest.ensures)
    (subst (λ l. AreQueued l (with_change c.count_down.new.subs c.args.sub one_more))
    (sym (after ∙ makes_way c.args.pipes.now.live x found.0 found.1 c.args.message.now item told ∙ ap (λ n. with_pipe (with_item item) n rows) (sym t.3)))
    (queued_more rows c.count_down.new.subs c.args.sub t.0 pipe.0 item c.recall_order-in-Oldest.ensures queued live_now pipe.1 refl))
