-- What waits stays counted when a pipe changes but for its number and queue, and when one is created.
use Rattle.std.proofs.Common.{◌≡◌, ℕ, Bool, true, false, cond, eqb, List, [], ◌∷◌, ◌++◌, map, find, count_by, Option, Some, refl, ap, sym, ◌∙◌, subst}
use Rattle.std.specs.List.{All}
use Rattle.std.specs.Option.{option_map}
use Rattle.std.proofs.lemmas.List.Elements.{All-nil, All-cons, All-append, All-map, All-weaker}
use Rattle.pipe_queue.specs.declared.item.Item.{Item}
use Rattle.subscriptions.specs.Subs.{Subscribed}
use Rattle.bus_words.specs.Pipes.{with_pipe, PipeOf, pipe_at, with_bits, new_pipe}
use Rattle.bus_routes.specs.Rows.{Row}
use Rattle.bus_routes.specs.Inside.{item_in, row_in, waiting_at, IsCounted, IsQueued, AreQueued}
use Rattle.bus_words.proofs.PipeItems.{with_pipe-map}

-- A change that keeps number and queue. --

-- a change of a row that leaves its number and what waits on it
pub record Keeps (change : PipeOf Item → PipeOf Item) : Type 0 where
  pub number : (row : PipeOf Item) → (change row).number ≡ row.number
  pub queue : (row : PipeOf Item) → (change row).queue ≡ row.queue

-- a row, changed if it has the number
abbrev pub changed : (PipeOf Item → PipeOf Item) → ℕ → PipeOf Item → PipeOf Item
changed change number row = cond {A = PipeOf Item} (eqb row.number number) (change row) row

module _ (change : PipeOf Item → PipeOf Item) (number : ℕ) (keeps : Keeps change) where
  number_changed : (row : PipeOf Item) → (changed change number row).number ≡ row.number
  number_changed row = by_test (eqb row.number number)
    where
      by_test : (b : Bool) → (cond {A = PipeOf Item} b (change row) row).number ≡ row.number
      by_test true = keeps.number row
      by_test false = refl

  queue_changed : (row : PipeOf Item) → (changed change number row).queue ≡ row.queue
  queue_changed row = by_test (eqb row.number number)
    where
      by_test : (b : Bool) → (cond {A = PipeOf Item} b (change row) row).queue ≡ row.queue
      by_test true = keeps.queue row
      by_test false = refl

  -- as many items of a subscription wait on the pipe of each number
  waiting_changed : (rows : List (PipeOf Item)) (pipe sub : ℕ) →
      ◌≡◌ {A = Option ℕ} (option_map (λ row. waiting_at row sub) (pipe_at (with_pipe change number rows) pipe)) (option_map (λ row. waiting_at row sub) (pipe_at rows pipe))
  waiting_changed [] pipe sub = refl
  waiting_changed (row ∷ rows) pipe sub =
      ap (λ n. option_map {U = ℕ} (λ (r : PipeOf Item). waiting_at r sub) (cond {A = Option (PipeOf Item)} (eqb n pipe) (Some (changed change number row)) (pipe_at (with_pipe change number rows) pipe))) (number_changed row)
      ∙ by_test (eqb row.number pipe) (waiting_changed rows pipe sub)
    where
      by_test : (b : Bool) →
          ◌≡◌ {A = Option ℕ} (option_map (λ r. waiting_at r sub) (pipe_at (with_pipe change number rows) pipe)) (option_map (λ r. waiting_at r sub) (pipe_at rows pipe)) →
          option_map {U = ℕ} (λ (r : PipeOf Item). waiting_at r sub) (cond {A = Option (PipeOf Item)} b (Some (changed change number row)) (pipe_at (with_pipe change number rows) pipe))
          ≡ option_map {U = ℕ} (λ (r : PipeOf Item). waiting_at r sub) (cond {A = Option (PipeOf Item)} b (Some row) (pipe_at rows pipe))
      by_test true ih = ap (λ (queue : List Item). Some (count_by (λ item. eqb item.sub.number sub) queue)) (queue_changed row)
      by_test false ih = ih

  -- what waits stays counted
  pub queued_changed : (rows : List (PipeOf Item)) (subscribed : Subscribed) → AreQueued rows subscribed → AreQueued (with_pipe change number rows) subscribed
  queued_changed rows subscribed queued =
      let Are : PipeOf Item → Type 0 = λ row. All (IsQueued subscribed row.number) row.queue in
      record {
        counted = All-weaker (IsCounted rows) (IsCounted (with_pipe change number rows)) (λ s is. waiting_changed rows s.pipe s.number ∙ is) subscribed.live queued.counted;
        items = All-map Are (changed change number) rows (All-weaker Are (λ row. Are (changed change number row)) same rows queued.items);
      }
    where
      same : (row : PipeOf Item) → All (IsQueued subscribed row.number) row.queue → All (IsQueued subscribed (changed change number row).number) (changed change number row).queue
      same row are =
          let P : ℕ → Type 0 = λ n. All (IsQueued subscribed n) row.queue in
          let Q : List Item → Type 0 = λ queue. All (IsQueued subscribed (changed change number row).number) queue in
          subst Q (sym (queue_changed row)) (subst P (sym (number_changed row)) are)

-- option bits are no part of either
pub bits_keep : (bits : ℕ) → Keeps (with_bits bits)
bits_keep bits = record { number = λ row. refl; queue = λ row. refl }

-- a change of one row is that change of the row that contracts see
pub rows_changed : (change : PipeOf Item → PipeOf Item) (next : Row → Row) → ((row : PipeOf Item) → row_in (change row) ≡ next (row_in row)) →
    (number : ℕ) (rows : List (PipeOf Item)) → map row_in (with_pipe change number rows) ≡ with_pipe next number (map row_in rows)
rows_changed change next same number rows = with_pipe-map item_in change next same number rows

-- A pipe more. --

-- what is found is found among more rows
found_more : {U : Type 0} (f : PipeOf Item → U) (p : PipeOf Item → Bool) (rows more : List (PipeOf Item)) (u : U) → option_map f (find p rows) ≡ Some u → option_map f (find p (rows ++ more)) ≡ Some u
found_more f p [] more u is = absurd (cc (is))
found_more {U} f p (row ∷ rows) more u is = by_test (p row) (found_more f p rows more u) is
  where
    by_test : (b : Bool) → (option_map f (find p rows) ≡ Some u → option_map f (find p (rows ++ more)) ≡ Some u) →
        option_map f (cond {A = Option (PipeOf Item)} b (Some row) (find p rows)) ≡ Some u → option_map f (cond {A = Option (PipeOf Item)} b (Some row) (find p (rows ++ more))) ≡ Some u
    by_test true ih here = here
    by_test false ih here = ih here

-- what waits stays counted if an empty pipe is added
pub queued_more : (rows : List (PipeOf Item)) (subscribed : Subscribed) (number : ℕ) (name : List ℕ) (owner depth : ℕ) → AreQueued rows subscribed →
    AreQueued (rows ++ new_pipe number name owner depth ∷ []) subscribed
queued_more rows subscribed number name owner depth queued =
    let row = new_pipe number name owner depth in
    let Are : PipeOf Item → Type 0 = λ r. All (IsQueued subscribed r.number) r.queue in
    record {
      counted = All-weaker (IsCounted rows) (IsCounted (rows ++ row ∷ []))
          (λ s is. found_more (λ r. waiting_at r s.number) (λ r. eqb r.number s.pipe) rows (row ∷ []) s.waiting is) subscribed.live queued.counted;
      items = All-append Are rows (row ∷ []) queued.items (All-cons Are row [] (All-nil (IsQueued subscribed number)) (All-nil Are));
    }
