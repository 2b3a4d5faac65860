-- Changes of one pipe that touch no message, and of subscriptions.
use Rattle.std.proofs.Common.{◌≡◌, ℕ, ◌+◌, ◌≤◌, Bool, true, false, cond, eqb, List, [], ◌∷◌, length, map, sum_by, refl, ap, sym, ◌∙◌, subst, arith}
use Rattle.std.proofs.lemmas.List.Sums.{sum_by-cons}
use Rattle.bus_words.specs.Bus.{Pipe, Subscription, with_pipe, with_bits}
use Rattle.bus_routes.specs.Rows.{Row}
use Rattle.bus_routes.specs.Tables.{Tables}
use Rattle.bus_routes.specs.Uses.{item_use, uses_in, uses_of}
use Rattle.bus_messages.specs.declared.store.BusStore.TheInside.{Inside}
use Rattle.bus_messages.specs.Store.{Store, LastLoan}
use Rattle.bus_messages.specs.Inside.{store_of, Keeps, IsNamed, item_in, loan_in, lasts_of}
use Rattle.lend_block.specs.Loan.{LentBytes}
use Rattle.buf_desc.specs.Held.{Holding}
use Rattle.bus_messages.proofs.Lasts.{AreLike, HasDue, holds_like, like_kept}
use Rattle.bus_messages.proofs.Items.{items_with_row}
use Rattle.bus_words.proofs.PipeItems.{with_pipe-map}
use Rattle.bus_messages.proofs.Receives.{retied}
use Rattle.bus_messages.proofs.Stores.{length-with_row}

-- a change that keeps what is summed
sum_kept : (w : Row → ℕ) (change : Row → Row) (number : ℕ) → ((row : Row) → w (change row) ≡ w row) → (rows : List Row) → sum_by w (with_pipe change number rows) ≡ sum_by w rows
sum_kept w change number keeps [] = refl
sum_kept w change number keeps (row ∷ rows) =
    sum_by-cons w (cond {A = Row} (eqb row.number number) (change row) row) (with_pipe change number rows)
    ∙ ap (λ n. n + sum_by w (with_pipe change number rows)) (by_test (eqb row.number number))
    ∙ ap (λ n. w row + n) (sum_kept w change number keeps rows)
    ∙ sym (sum_by-cons w row rows)
  where
    by_test : (b : Bool) → w (cond {A = Row} b (change row) row) ≡ w row
    by_test true = keeps row
    by_test false = refl

loans_kept : (slots : _) (change : Row → Row) (number : ℕ) → ((row : Row) → loan_in slots (change row) ≡ loan_in slots row) → (rows : List Row) → map (loan_in slots) (with_pipe change number rows) ≡ map (loan_in slots) rows
loans_kept slots change number keeps [] = refl
loans_kept slots change number keeps (row ∷ rows) =
    ap (λ (l : LastLoan). l ∷ map (loan_in slots) (with_pipe change number rows)) (by_test (eqb row.number number))
    ∙ ap (λ (l : List LastLoan). loan_in slots row ∷ l) (loans_kept slots change number keeps rows)
  where
    by_test : (b : Bool) → loan_in slots (cond {A = Row} b (change row) row) ≡ loan_in slots row
    by_test true = keeps row
    by_test false = refl

-- Option bits. --

module _ (a : Inside) (old : Store) (next : Tables) (number bits : ℕ) (is : next ≡ record a.tables { pipes = with_pipe (with_bits bits) number a.tables.pipes }) where
  abbrev rows' : List Row
  rows' = with_pipe (with_bits bits) number a.tables.pipes

  pub bits_keeps : Keeps a → Keeps (record a { tables = next })
  bits_keeps keeps =
      subst (λ t. Keeps (record a { tables = t })) (sym is)
      (record {
        backed = record {
          tied = retied a.desk a.tables.pipes rows' (λ n. uses_of n a.tables.pipes) (λ n. lasts_of n a.tables.pipes) (λ n. uses_of n rows') (λ n. lasts_of n rows') a.given keeps.backed.tied
              (λ n. sum_kept (uses_in n) (with_bits bits) number (λ row. refl) a.tables.pipes)
              (λ n. sum_kept (λ (row : Row). item_use n row.last) (with_bits bits) number (λ row. refl) a.tables.pipes)
              (items_with_row (IsNamed a.desk.slots) (with_bits bits) number (λ row one. record { queue = one.queue; last = one.last }) a.tables.pipes keeps.backed.tied.items);
          used = keeps.backed.used;
        };
        listed = keeps.listed;
        places = keeps.places;
        misses = keeps.misses;
        pipes_live = omega (arith, length-with_row (with_bits bits) number a.tables.pipes, keeps.pipes_live);
        pipes_few = keeps.pipes_few;
        subscriptions_live = keeps.subscriptions_live;
        subscriptions_made = keeps.subscriptions_made;
      })

  pub bits_store : store_of a ≡ old → store_of (record a { tables = next }) ≡ record old { pipes = with_pipe (with_bits bits) number old.pipes }
  bits_store viewed =
      ap (λ t. store_of (record a { tables = t })) is
      ∙ ap (λ (l : List Pipe). let v : Store = record (store_of a) { pipes = l; loans = map (loan_in a.desk.slots) rows' } in v)
      (with_pipe-map (item_in a.desk.slots) (with_bits bits) (with_bits bits) (λ row. refl) number a.tables.pipes)
      ∙ ap (λ (l : List LastLoan). let v : Store = record (store_of a) { pipes = with_pipe (with_bits bits) number (store_of a).pipes; loans = l } in v)
      (loans_kept a.desk.slots (with_bits bits) number (λ row. refl) a.tables.pipes)
      ∙ ap (λ (o : Store). let v : Store = record o { pipes = with_pipe (with_bits bits) number o.pipes } in v) viewed

  pub bits_bags : store_of a ≡ old → (app : ℕ) (bag : Holding LentBytes) → HasDue old app bag → HasDue (store_of (record a { tables = next })) app bag
  bits_bags viewed app bag =
      let e = bits_store viewed in
      let like = like_kept (with_bits bits) (record { number = λ pipe. refl; owner = λ pipe. refl; last = λ pipe. refl }) number old.pipes in
      holds_like old (store_of (record a { tables = next })) app bag
      (subst (AreLike old.pipes) (sym (ap (λ (o : Store). o.pipes) e)) like) (ap (λ (o : Store). o.loans) e) (ap (λ (o : Store). o.room) e)

-- Subscriptions. --

-- only the subscriptions change, and there are no more of them
pub fewer_keeps : (a : Inside) (next : Tables) (subs : List Subscription) → next ≡ record a.tables { subscriptions = subs } → length subs ≤ length a.tables.subscriptions → Keeps a → Keeps (record a { tables = next })
fewer_keeps a next subs is few keeps =
    subst (λ t. Keeps (record a { tables = t })) (sym is)
    (record {
      backed = keeps.backed;
      listed = keeps.listed;
      places = keeps.places;
      misses = keeps.misses;
      pipes_live = keeps.pipes_live;
      pipes_few = keeps.pipes_few;
      subscriptions_live = omega (arith, few, keeps.subscriptions_live);
      subscriptions_made = keeps.subscriptions_made;
    })
