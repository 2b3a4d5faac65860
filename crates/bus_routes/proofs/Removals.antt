-- A pipe that leaves, with its subscriptions and what waits on it.
use Rattle.std.proofs.Common.{◌≡◌, ℕ, not, eqb, List, get_or, filter, true, ap, sym, subst, ◌∙◌}
use Rattle.std.specs.List.{All}
use Rattle.std.specs.Option.{option_map}
use Rattle.std.proofs.lemmas.Bool.{eqb-true}
use Rattle.std.proofs.lemmas.List.Elements.{All-filter, filter_passes}
use Rattle.pipe_queue.specs.declared.item.Item.{Item}
use Rattle.bus_words.specs.Pipes.{PipeOf, without_pipe}
use Rattle.subscriptions.specs.Subs as subs
use Rattle.bus_routes.specs.Inside.{AreQueued, IsCounted, IsQueued, waiting_at}
use Rattle.bus_routes.proofs.EndingsLists.{find_within}
use Rattle.bus_routes.proofs.Ties.{queued_left}

-- the number of another pipe
pub other_number : (m p n : ℕ) → not (eqb p n) ≡ true → eqb m p ≡ true → not (eqb m n) ≡ true
other_number m p n apart same = subst (λ k. not (eqb k n) ≡ true) (sym (eqb-true m p same)) apart

-- what waits stays counted if a pipe leaves with its subscriptions
pub queued_removed : (rows : List (PipeOf Item)) (subscribed : subs.Subscribed) (number : ℕ) → AreQueued rows subscribed →
    AreQueued (without_pipe number rows) (record subscribed { live = filter (λ s. not (eqb s.pipe number)) subscribed.live })
queued_removed rows subscribed number queued = record {
  counted = λ k d within. recount (get_or left.live k d) (filter_passes (λ s. not (eqb s.pipe number)) subscribed.live k d within) (few.counted k d within);
  items = All-filter (λ row. not (eqb row.number number)) (λ row. All (IsQueued left row.number) row.queue) rows few.items;
}
  where
    left : subs.Subscribed
    left = record subscribed { live = filter (λ s. not (eqb s.pipe number)) subscribed.live }

    few : AreQueued rows left
    few = queued_left rows subscribed (λ s. not (eqb s.pipe number)) queued

    recount : (s : subs.LiveSubscription) → not (eqb s.pipe number) ≡ true → IsCounted rows s → IsCounted (without_pipe number rows) s
    recount s apart counted =
        ap (option_map (λ row. waiting_at row s.number))
        (find_within (λ row. eqb row.number s.pipe) (λ row. not (eqb row.number number)) (λ row same. other_number row.number s.pipe number apart same) rows)
        ∙ counted
