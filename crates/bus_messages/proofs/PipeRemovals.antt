-- A pipe without messages that leaves, with its subscriptions.
use Rattle.std.proofs.Common.{◌≡◌, ℕ, ◌+◌, ◌<◌, ◌≤◌, ◌⊎◌, inl, inr, Bool, true, false, not, ◌&&◌, ◌||◌, cond, eqb, List, [], ◌∷◌, map, filter, find, count_by, sum_by, Option, Some, None, is_some, refl, ap, sym, ◌∙◌, subst, arith}
use Rattle.std.specs.Option.{option_map, option_map_or, option_and_then}
use Rattle.std.proofs.lemmas.Bool.{cases_eq, eqb-true}
use Rattle.std.proofs.lemmas.Bool.Decides.{nat_tests}
use Rattle.std.proofs.lemmas.List.Elements.{All-filter}
use Rattle.std.proofs.lemmas.List.Filters.{length-filter_both}
use Rattle.std.proofs.lemmas.List.Sums.{sum_by-cons}
use Rattle.fsw_base.specs.PoolAccounts.{Account}
use Rattle.fsw_base.proofs.Lists.{filter-map}
use Rattle.lend_block.specs.Loan.{LentBytes}
use Rattle.buf_desc.specs.Held.{Holding}
use Rattle.bus_words.specs.Bus.{Item, Pipe, Subscription, owns}
use Rattle.bus_routes.specs.declared.tables.ItemRow.{ItemRow}
use Rattle.bus_words.specs.Pipes.{pipe_at, oldest, oldest_on, last_on, IsRising, pipe_by}
use Rattle.bus_routes.specs.Rows.{Row}
use Rattle.bus_routes.specs.Tables.{Tables}
use Rattle.bus_routes.specs.Uses.{item_use, uses_in, uses_of}
use Rattle.bus_routes.proofs.EndingsLists.{find_within}
use Rattle.bus_messages.specs.declared.store.BusStore.TheInside.{Inside}
use Rattle.bus_messages.specs.Bag.{view_due, views_due}
use Rattle.bus_messages.specs.Store.{Store, LastLoan}
use Rattle.bus_messages.specs.Words.{loan_of, with_held}
use Rattle.bus_messages.specs.Inside.{store_of, Keeps, item_in, pipes_in, loan_in, OfItems, IsNamed, lasts_of}
use Rattle.bus_messages.proofs.Bags.{has_view, views-rows}
use Rattle.bus_messages.proofs.EmptyPipes.{Alone}
use Rattle.bus_messages.proofs.Accounts.{OutAlone, alone_as, held_now}
use Rattle.bus_messages.proofs.Lasts.{HasDue, holds_same}
use Rattle.bus_words.proofs.PipeItems.{oldest_on-map, last_on-map}
use Rattle.bus_messages.proofs.Receives.{retied}

-- Sums. --

abbrev stays : ℕ → Row → Bool
stays number row = not (eqb row.number number)

-- a number below the rows' is no row's
absent : (number below : ℕ) (rows : List Row) → IsRising below rows → number ≤ below → filter (stays number) rows ≡ rows
absent number below [] rises h = refl
absent number below (row ∷ rows) rises h =
    ap (λ b. cond {A = List Row} (not b) (row ∷ filter (stays number) rows) (filter (stays number) rows)) (off row.number number (omega (arith, h, rises.0)))
    ∙ ap (λ l. row ∷ l) (absent number row.number rows rises.1 (omega (arith, h, rises.0)))
  where
    off : (a b : ℕ) → b < a → eqb a b ≡ false
    off a b l = grind (arith, nat_tests)

-- a sum over the rows loses what the one row has in it
sum_without : (w : Row → ℕ) (number below : ℕ) (rows : List Row) → IsRising below rows → sum_by w (filter (stays number) rows) + option_map_or {U = ℕ} w (pipe_at rows number) 0 ≡ sum_by w rows
sum_without w number below [] rises = refl
sum_without w number below (row ∷ rows) rises = by_test (eqb row.number number) refl (sum_without w number row.number rows rises.1)
  where
    same : (a b : ℕ) → eqb a b ≡ true → b ≤ a
    same a b t = grind (arith, nat_tests)

    by_test : (b : Bool) → eqb row.number number ≡ b → sum_by w (filter (stays number) rows) + option_map_or {U = ℕ} w (pipe_at rows number) 0 ≡ sum_by w rows →
        sum_by w (cond {A = List Row} (not b) (row ∷ filter (stays number) rows) (filter (stays number) rows)) + option_map_or {U = ℕ} w (cond {A = Option Row} b (Some row) (pipe_at rows number)) 0
        ≡ sum_by w (row ∷ rows)
    by_test true e later =
        let rest = ap (sum_by w) (absent number row.number rows rises.1 (same row.number number e)) in
        omega (arith, rest, sum_by-cons w row rows)
    by_test false e later = omega (arith, later, sum_by-cons w row rows, sum_by-cons w row (filter (stays number) rows))

-- and stays if that is nothing
sum_stays : (w : Row → ℕ) (number : ℕ) (rows : List Row) → IsRising 0 rows → oldest_on rows number ≡ None → last_on rows number ≡ None →
    ((row : Row) → oldest row.queue ≡ None → row.last ≡ None → w row ≡ 0) → sum_by w (filter (stays number) rows) ≡ sum_by w rows
sum_stays w number rows rises waits last none = let sum = sum_without w number 0 rows rises in omega (arith, sum, by_row (pipe_at rows number) waits last)
  where
    by_row : (o : Option Row) → option_and_then (λ (row : Row). oldest row.queue) o ≡ None → option_and_then (λ (row : Row). row.last) o ≡ None → option_map_or {U = ℕ} w o 0 ≡ 0
    by_row None e f = refl
    by_row (Some row) e f = none row e f

no_uses : (n : ℕ) (row : Row) → oldest row.queue ≡ None → row.last ≡ None → uses_in n row ≡ 0
no_uses n row waits last = omega (arith, by_queue row.queue waits, ap (item_use n) last)
  where
    by_queue : (queue : List ItemRow) → oldest queue ≡ None → count_by (λ (i : ItemRow). eqb i.number n) queue ≡ 0
    by_queue [] e = refl
    by_queue (i ∷ queue) e = absurd (cc (e))

no_view : (app : ℕ) (row : Row) → row.last ≡ None → cond {A = ℕ} (has_view app row) 1 0 ≡ 0
no_view app row last = ap (λ l. cond {A = ℕ} (eqb row.owner app && is_some l) 1 0) last ∙ never (eqb row.owner app)
  where
    never : (b : Bool) → cond {A = ℕ} (b && false) 1 0 ≡ 0
    never true = refl
    never false = refl

-- What is asked of the other pipes. --

keeps : (m number other : ℕ) → (number ≡ other → ⊥) → eqb m other ≡ true → not (eqb m number) ≡ true
keeps m number other apart f = at (eqb m number) refl
  where
    at : (b : Bool) → eqb m number ≡ b → not b ≡ true
    at false e = refl
    at true e = absurd (apart (sym (eqb-true m number e) ∙ eqb-true m other f))

owns_gone : (number app : ℕ) (pipes : List Pipe) → owns (filter (λ (p : Pipe). not (eqb p.number number)) pipes) app number ≡ false
owns_gone number app [] = refl
owns_gone number app (pipe ∷ pipes) = by_test (eqb pipe.number number) refl (owns_gone number app pipes)
  where
    rest : List Pipe
    rest = filter (λ (p : Pipe). not (eqb p.number number)) pipes

    by_test : (b : Bool) → eqb pipe.number number ≡ b → owns rest app number ≡ false → owns (cond {A = List Pipe} (not b) (pipe ∷ rest) rest) app number ≡ false
    by_test true e ih = ih
    by_test false e ih = ap (λ c. (c && eqb pipe.owner app) || owns rest app number) e ∙ ih

owns_other : (number app other : ℕ) → (number ≡ other → ⊥) → (pipes : List Pipe) → owns (filter (λ (p : Pipe). not (eqb p.number number)) pipes) app other ≡ owns pipes app other
owns_other number app other apart [] = refl
owns_other number app other apart (pipe ∷ pipes) = by_test (eqb pipe.number number) refl (owns_other number app other apart pipes)
  where
    rest : List Pipe
    rest = filter (λ (p : Pipe). not (eqb p.number number)) pipes

    off : eqb pipe.number number ≡ true → (c : Bool) → eqb pipe.number other ≡ c → c ≡ false
    off e false f = refl
    off e true f = absurd (apart (sym (eqb-true pipe.number number e) ∙ eqb-true pipe.number other f))

    by_test : (b : Bool) → eqb pipe.number number ≡ b → owns rest app other ≡ owns pipes app other →
        owns (cond {A = List Pipe} (not b) (pipe ∷ rest) rest) app other ≡ ((eqb pipe.number other && eqb pipe.owner app) || owns pipes app other)
    by_test true e ih = ih ∙ sym (ap (λ c. (c && eqb pipe.owner app) || owns pipes app other) (off e (eqb pipe.number other) refl))
    by_test false e ih = ap (λ c. (eqb pipe.number other && eqb pipe.owner app) || c) ih

last_other : (number other : ℕ) → (number ≡ other → ⊥) → (pipes : List Pipe) → last_on (filter (λ (p : Pipe). not (eqb p.number number)) pipes) other ≡ last_on pipes other
last_other number other apart pipes =
    ap (option_and_then (λ (p : Pipe). p.last)) (find_within (λ (p : Pipe). eqb p.number other) (λ (p : Pipe). not (eqb p.number number)) (λ p. keeps p.number number other apart) pipes)

pub loan_other : (number other : ℕ) → (number ≡ other → ⊥) → (new old : Store) → new.loans ≡ filter (λ (one : LastLoan). not (eqb one.pipe number)) old.loans → loan_of new.loans other ≡ loan_of old.loans other
loan_other number other apart new old loans =
    ap (λ l. option_map_or {U = ℕ} (λ (one : LastLoan). one.loan) (find (λ (one : LastLoan). eqb one.pipe other) l) 0) loans
    ∙ ap (λ o. option_map_or {U = ℕ} (λ (one : LastLoan). one.loan) o 0)
    (find_within (λ (one : LastLoan). eqb one.pipe other) (λ (one : LastLoan). not (eqb one.pipe number)) (λ one. keeps one.pipe number other apart) old.loans)

-- what is due of pipes stays, if the one that leaves has no last message
due_stays : (old new : Store) (number : ℕ) → last_on old.pipes number ≡ None → new.pipes ≡ filter (λ (p : Pipe). not (eqb p.number number)) old.pipes →
    new.loans ≡ filter (λ (one : LastLoan). not (eqb one.pipe number)) old.loans → (app other : ℕ) → view_due new.pipes new.loans app other ≡ view_due old.pipes old.loans app other
due_stays old new number last pipes loans app other = at (cases_eq number other)
  where
    view : ℕ → Option Item → Option LentBytes
    view n o = option_map (λ (i : Item). record { loan = n; bytes = i.message }) o

    nothing : (b : Bool) → cond {A = Option LentBytes} b None None ≡ None
    nothing true = refl
    nothing false = refl

    at : (number ≡ other) ⊎ (number ≡ other → ⊥) → cond {A = Option LentBytes} (owns new.pipes app other) (view (loan_of new.loans other) (last_on new.pipes other)) None ≡ cond {A = Option LentBytes} (owns old.pipes app other) (view (loan_of old.loans other) (last_on old.pipes other)) None
    at (inl same) =
        ap (λ b. cond {A = Option LentBytes} b (view (loan_of new.loans other) (last_on new.pipes other)) None)
        (ap (λ l. owns l app other) pipes ∙ ap (owns (filter (λ (p : Pipe). not (eqb p.number number)) old.pipes) app) (sym same) ∙ owns_gone number app old.pipes)
        ∙ sym
        (ap (λ o. cond {A = Option LentBytes} (owns old.pipes app other) (view (loan_of old.loans other) o) None) (ap (last_on old.pipes) (sym same) ∙ last)
        ∙ nothing (owns old.pipes app other))
    at (inr apart) =
        ap (λ b. cond {A = Option LentBytes} b (view (loan_of new.loans other) (last_on new.pipes other)) None) (ap (λ l. owns l app other) pipes ∙ owns_other number app other apart old.pipes)
        ∙ ap (λ o. cond {A = Option LentBytes} (owns old.pipes app other) (view (loan_of new.loans other) o) None) (ap (λ l. last_on l other) pipes ∙ last_other number other apart old.pipes)
        ∙ ap (λ n. cond {A = Option LentBytes} (owns old.pipes app other) (view n (last_on old.pipes other)) None) (loan_other number other apart new old loans)

-- The store. --

module _ (a : Inside) (old : Store) (viewed : store_of a ≡ old) where
  abbrev rows : List Row
  rows = a.tables.pipes

  no_item : (o : Option ItemRow) → option_map (item_in a.desk.slots) o ≡ None → o ≡ None
  no_item None e = refl
  no_item (Some i) e = absurd (cc (e))

  pub rows_wait : (number : ℕ) → oldest_on old.pipes number ≡ None → oldest_on rows number ≡ None
  rows_wait number waits = no_item (oldest_on rows number) (sym (oldest_on-map (item_in a.desk.slots) rows number) ∙ ap (λ (o : Store). oldest_on o.pipes number) viewed ∙ waits)

  pub rows_last : (number : ℕ) → last_on old.pipes number ≡ None → last_on rows number ≡ None
  rows_last number last = no_item (last_on rows number) (sym (last_on-map (item_in a.desk.slots) rows number) ∙ ap (λ (o : Store). last_on o.pipes number) viewed ∙ last)

module _ (a : Inside) (old : Store) (next : Tables) (number : ℕ)
    (is : next ≡ record a.tables { pipes = filter (λ (r : Row). not (eqb r.number number)) a.tables.pipes; subscriptions = filter (λ (s : Subscription). not (eqb s.pipe number)) a.tables.subscriptions })
    (viewed : store_of a ≡ old) (rises : IsRising 0 a.tables.pipes) (waits : oldest_on old.pipes number ≡ None) (last : last_on old.pipes number ≡ None) where
  abbrev rows' : List Row
  rows' = filter (λ (r : Row). not (eqb r.number number)) a.tables.pipes

  abbrev subs' : List Subscription
  subs' = filter (λ (s : Subscription). not (eqb s.pipe number)) a.tables.subscriptions

  pub removed_keeps : Keeps a → Keeps (record a { tables = next })
  removed_keeps kept =
      let pipes = length-filter_both (λ (r : Row). not (eqb r.number number)) (λ r. not (not (eqb r.number number))) (λ r. refl) a.tables.pipes in
      let subs = length-filter_both (λ (s : Subscription). not (eqb s.pipe number)) (λ s. not (not (eqb s.pipe number))) (λ s. refl) a.tables.subscriptions in
      subst (λ t. Keeps (record a { tables = t })) (sym is)
      (record {
        backed = record {
          tied = retied a.desk a.tables.pipes rows' (λ n. uses_of n a.tables.pipes) (λ n. lasts_of n a.tables.pipes) (λ n. uses_of n rows') (λ n. lasts_of n rows') a.given kept.backed.tied
              (λ n. sum_stays (uses_in n) number a.tables.pipes rises (rows_wait a old viewed number waits) (rows_last a old viewed number last) (no_uses n))
              (λ n. sum_stays (λ (r : Row). item_use n r.last) number a.tables.pipes rises (rows_wait a old viewed number waits) (rows_last a old viewed number last) (λ r queue none. ap (item_use n) none))
              (All-filter (λ (r : Row). not (eqb r.number number)) (OfItems (IsNamed a.desk.slots)) a.tables.pipes kept.backed.tied.items);
          used = kept.backed.used;
        };
        listed = kept.listed;
        places = kept.places;
        misses = kept.misses;
        pipes_live = omega (arith, pipes, kept.pipes_live);
        pipes_few = kept.pipes_few;
        subscriptions_live = omega (arith, subs, kept.subscriptions_live);
        subscriptions_made = kept.subscriptions_made;
      })

  abbrev new : Store
  new = store_of (record a { tables = next })

  pub removed_store : new ≡ record old {
    pipes = filter (λ (p : Pipe). not (eqb p.number number)) old.pipes;
    subscriptions = filter (λ (s : Subscription). not (eqb s.pipe number)) old.subscriptions;
    loans = filter (λ (one : LastLoan). not (eqb one.pipe number)) old.loans;
  }
  removed_store =
      ap (λ t. store_of (record a { tables = t })) is
      ∙ ap (λ (l : List Pipe). let v : Store = record (store_of a) { pipes = l; subscriptions = subs'; loans = map (loan_in a.desk.slots) rows' } in v)
      (sym (filter-map (λ (p : Pipe). not (eqb p.number number)) (pipe_by (item_in a.desk.slots)) a.tables.pipes))
      ∙ ap (λ (l : List LastLoan). let v : Store = record (store_of a) { pipes = filter (λ (p : Pipe). not (eqb p.number number)) (store_of a).pipes; subscriptions = subs'; loans = l } in v)
      (sym (filter-map (λ (one : LastLoan). not (eqb one.pipe number)) (loan_in a.desk.slots) a.tables.pipes))
      ∙ ap
      (λ (o : Store). let v : Store = record o {
        pipes = filter (λ (p : Pipe). not (eqb p.number number)) o.pipes;
        subscriptions = filter (λ (s : Subscription). not (eqb s.pipe number)) o.subscriptions;
        loans = filter (λ (one : LastLoan). not (eqb one.pipe number)) o.loans;
      } in v) viewed

  pub removed_bags : (app : ℕ) (bag : Holding LentBytes) → HasDue old app bag → HasDue new app bag
  removed_bags app bag =
      holds_same old new app bag
      (due_stays old new number last (ap (λ (o : Store). o.pipes) removed_store) (ap (λ (o : Store). o.loans) removed_store) app)
      (ap (λ (t : Tables). views_due (pipes_in a.desk.slots t.pipes) app) is
      ∙ views-rows a.desk.slots rows' app
      ∙ sum_stays (λ (r : Row). cond {A = ℕ} (has_view app r) 1 0) number a.tables.pipes rises (rows_wait a old viewed number waits) (rows_last a old viewed number last) (λ r queue none. no_view app r none)
      ∙ sym (views-rows a.desk.slots a.tables.pipes app)
      ∙ ap (λ (o : Store). views_due o.pipes app) viewed)
      (ap (λ (o : Store). o.room) removed_store)

-- A pipe that was emptied before. --

pub deleted_store : (old mid new : Store) (number : ℕ) →
    filter (λ (p : Pipe). not (eqb p.number number)) mid.pipes ≡ filter (λ (p : Pipe). not (eqb p.number number)) old.pipes → Alone old mid → OutAlone old.account mid.account →
    new ≡ record mid {
      pipes = filter (λ (p : Pipe). not (eqb p.number number)) mid.pipes;
      subscriptions = filter (λ (s : Subscription). not (eqb s.pipe number)) mid.subscriptions;
      loans = filter (λ (one : LastLoan). not (eqb one.pipe number)) mid.loans;
    } → new.account ≡ with_held new.account new.pipes new.unsent new.numbers_given →
    new ≡ record old {
      pipes = filter (λ (p : Pipe). not (eqb p.number number)) old.pipes;
      subscriptions = filter (λ (s : Subscription). not (eqb s.pipe number)) old.subscriptions;
      account = with_held old.account new.pipes old.unsent old.numbers_given;
      loans = new.loans;
    }
deleted_store old mid new number others same account is law =
    let rest : Store → List Subscription = λ o. filter (λ (s : Subscription). not (eqb s.pipe number)) o.subscriptions in
    let left : List Pipe = filter (λ (p : Pipe). not (eqb p.number number)) old.pipes in
    is
    ∙ ap (λ (l : List Pipe). let v : Store = record mid { pipes = l; subscriptions = rest mid; loans = filter (λ (one : LastLoan). not (eqb one.pipe number)) mid.loans } in v) others
    ∙ ap (λ (l : List LastLoan). let v : Store = record mid { pipes = left; subscriptions = rest mid; loans = l } in v) (sym (ap (λ (o : Store). o.loans) is))
    ∙ ap (λ (o : Store). let v : Store = record o { pipes = left; subscriptions = rest o; loans = new.loans } in v) same
    ∙ ap (λ (c : Account). let v : Store = record old { pipes = left; subscriptions = rest old; account = c; loans = new.loans } in v)
    (sym (ap (λ (o : Store). o.account) is)
    ∙ held_now old.account new.account new.pipes old.unsent old.numbers_given (alone_as old.account mid.account new.account account (ap (λ (o : Store). o.account) is))
    (law
    ∙ ap (λ l. with_held new.account new.pipes l new.numbers_given) (ap (λ (o : Store). o.unsent) is ∙ ap (λ (o : Store). o.unsent) same)
    ∙ ap (with_held new.account new.pipes old.unsent) (ap (λ (o : Store). o.numbers_given) is ∙ ap (λ (o : Store). o.numbers_given) same)))
