-- A buffer that is given back unsent: what the store and the bags are then.
use Rattle.std.proofs.Common.{◌≡◌, ℕ, ◌+◌, ◌-◌, ◌<◌, ◌≤◌, Bool, true, false, cond, eqb, List, [], ◌∷◌, length, set, map, drop, Option, None, is_some, refl, ap, sym, ◌∙◌, subst, arith}
use Rattle.std.proofs.lemmas.List.{length-map}
use Rattle.fsw_base.specs.PoolAccounts.{Account}
use Rattle.lend_block.specs.Loan.{LentBytes}
use Rattle.bucket_list.specs.Lists.{times_in}
use Rattle.zero_copy.specs.Held.{HeldDescs, held_by, without}
use Rattle.zero_copy.proofs.Links.{first_in, length_without}
use Rattle.zero_copy.proofs.Changes.{without_head}
use Rattle.es_pool.specs.Pool.{is_out, size_at}
use Rattle.buf_desc.specs.Block.{Unsent as UnsentBlock}
use Rattle.buf_desc.specs.Desk.{Buffers, IsOf, freed}
use Rattle.buf_desc.specs.Held.{Holding, buffer_at}
use Rattle.buf_desc.specs.Slots.{slot_at, sealed_at, sealed_in, is_sealed, is_open, is_live, number_in, asked_in}
use Rattle.buf_desc.specs.declared.slot.Slot.{Slot}
use Rattle.buf_desc.specs.declared.slot.Slot.TheVariants.{Free}
use Rattle.bus_words.specs.Bus.{Pipe, Buffer, unsent_of, has_unsent, without_unsent}
use Rattle.bus_routes.specs.Rows.{Row}
use Rattle.bus_routes.specs.Uses.{uses_of}
use Rattle.bus_messages.specs.declared.store.BusStore.TheInside.{Inside}
use Rattle.bus_messages.specs.Bag.{HoldsBuffers}
use Rattle.bus_messages.specs.Store.{Store, LastLoan, BufferDesc}
use Rattle.bus_messages.specs.Words.{desc_of, with_held}
use Rattle.bus_messages.specs.Inside.{store_of, Keeps, Backed, loan_in, buffer_in, unsent_in, descs_in, account_in, returned, AllItems, IsNamed, lasts_of}
use Rattle.bus_messages.proofs.Accounts.{held_law, held_now, alone_as, returned_is_alone}
use Rattle.bus_messages.proofs.Items.{items_weaker}
use Rattle.bus_messages.proofs.BufferLists.{once, times-one, unsent_of-lists, mine_open, mine_found}
use Rattle.bus_messages.proofs.Pool.{returned_for}
use Rattle.bus_messages.proofs.ListChanges.{list_of, same_list, listed_fewer, unsent_fewer, desc_fewer, others_fewer, bag_fewer}
use Rattle.bus_messages.proofs.OwnBuffers.{list_there}
use Rattle.bus_messages.proofs.Ties.{Stays, stays_apart, named_stay, pipes_stay, loans_stay, tied_freed, here_set, others_set, open_live, open_unsealed}

off : (b : Bool) → b ≡ false → b ≡ true → ⊥
off b x y = cc

-- no item lies in an unsent block
pub items_apart : (slots after : List Slot) (rows : List Row) (d : ℕ) → is_sealed (slot_at slots d) ≡ false → ((e : ℕ) → (d ≡ e → ⊥) → slot_at after e ≡ slot_at slots e) →
    AllItems (IsNamed slots) rows → AllItems (Stays slots after) rows
items_apart slots after rows d unsealed others items =
    items_weaker (IsNamed slots) (Stays slots after)
    (λ i named. stays_apart slots after d others i (λ same. off (is_sealed (slot_at slots d)) unsealed (ap (λ x. is_sealed (slot_at slots x)) same ∙ named.sealed)) named) rows items

-- each sealed block has a use still
pub used_apart : (slots after : List Slot) (d : ℕ) → is_sealed (slot_at after d) ≡ false → ((e : ℕ) → (d ≡ e → ⊥) → slot_at after e ≡ slot_at slots e) →
    ((e : ℕ) → is_sealed (slot_at slots e) ≡ true → 1 ≤ (sealed_at slots e).uses) → (e : ℕ) → is_sealed (slot_at after e) ≡ true → 1 ≤ (sealed_at after e).uses
used_apart slots after d unsealed others used e is =
    let apart : d ≡ e → ⊥ = λ same. off (is_sealed (slot_at after d)) unsealed (ap (λ x. is_sealed (slot_at after x)) same ∙ is) in
    let same = others e apart in
    subst (λ s. 1 ≤ (sealed_in s).uses) (sym same) (used e (sym (ap is_sealed same) ∙ is))

module _ (a : Inside) (old : Store) (app buf d : ℕ) (next : HeldDescs) (viewed : store_of a ≡ old) (keeps : Keeps a)
    (one : 1 ≤ app) (mine : 0 < times_in (list_of a.lists.lists app) d) (numbered : number_in (slot_at a.desk.slots d) ≡ buf)
    (went : next ≡ record a.lists { lists = set a.lists.lists (app - 1) (without d (held_by a.lists app)) })
    (live_out : (e : ℕ) → is_live (slot_at a.desk.slots e) ≡ is_out a.desk.pool e) where
  abbrev slots : List Slot
  slots = a.desk.slots

  abbrev rows : List Row
  rows = a.tables.pipes

  abbrev gone : Slot
  gone = Free (size_at a.desk.pool d)

  abbrev final : Buffers
  final = freed a.desk d

  was_open : is_open (slot_at slots d) ≡ true
  was_open = mine_open slots a.lists.lists keeps.listed keeps.backed.tied.numbers app d mine

  live : is_live (slot_at slots d) ≡ true
  live = open_live (slot_at slots d) was_open

  out : is_out a.desk.pool d ≡ true
  out = sym (live_out d) ∙ live

  here : slot_at final.slots d ≡ gone
  here = here_set slots d gone live

  others : (e : ℕ) → (d ≡ e → ⊥) → slot_at final.slots e ≡ slot_at slots e
  others = others_set slots d gone live

  closed : is_open (slot_at final.slots d) ≡ false
  closed = ap is_open here

  place : app - 1 < length a.lists.lists
  place = list_there a.lists.lists (app - 1) d mine

  stay : AllItems (Stays slots final.slots) rows
  stay = items_apart slots final.slots rows d (open_unsealed (slot_at slots d) was_open) others keeps.backed.tied.items

  backed : Backed final rows a.given
  backed = record {
    tied = tied_freed a.desk d rows rows (λ n. uses_of n rows) (λ n. lasts_of n rows) (λ n. uses_of n rows) (λ n. lasts_of n rows) a.given keeps.backed.tied live out
        (λ n apart. refl) (λ n apart. refl) (named_stay slots final.slots rows stay);
    used = used_apart slots final.slots d (ap is_sealed here) others keeps.backed.used;
  }

  abbrev lists' : List (List ℕ)
  lists' = set a.lists.lists (app - 1) (without d (held_by a.lists app))

  abbrev after : Inside
  after = record a { desk = final; lists = next }

  after_is : after ≡ record a { desk = final; lists = record a.lists { lists = lists' } }
  after_is = ap (λ (l : HeldDescs). let v : Inside = record a { desk = final; lists = l } in v) went

  pub freed_keeps : Keeps after
  freed_keeps = subst Keeps (sym after_is) (record {
    backed = backed;
    listed = listed_fewer slots final.slots a.lists.lists app d keeps.listed keeps.backed.tied.numbers backed.tied.numbers place mine closed others;
    places = keeps.places;
    misses = keeps.misses;
    pipes_live = keeps.pipes_live;
    pipes_few = keeps.pipes_few;
    subscriptions_live = keeps.subscriptions_live;
    subscriptions_made = keeps.subscriptions_made;
  })

  abbrev new : Store
  new = store_of after

  unsent_is : unsent_in final.slots lists' ≡ without_unsent (unsent_in slots a.lists.lists) app buf
  unsent_is =
      unsent_fewer slots final.slots a.lists.lists app d keeps.listed keeps.backed.tied.numbers backed.tied.numbers place mine closed others
      ∙ ap (without_unsent (unsent_in slots a.lists.lists) app) numbered

  freed_unsent : new.unsent ≡ without_unsent old.unsent app buf
  freed_unsent = ap (λ (x : Inside). (store_of x).unsent) after_is ∙ unsent_is ∙ ap (λ (o : Store). without_unsent o.unsent app buf) viewed

  -- all but the descriptors
  freed_store : new ≡ record old { unsent = without_unsent old.unsent app buf; account = returned old.account (asked_in (slot_at slots d)); descs = new.descs }
  freed_store =
      let to : List Pipe → List LastLoan → List (List Buffer) → Account → Store = λ pipes loans unsent account. record (store_of a) { pipes = pipes; loans = loans; unsent = unsent; account = account; descs = new.descs } in
      ap store_of after_is
      ∙ ap (λ (l : List BufferDesc). let v : Store = record (store_of (record a { desk = final; lists = record a.lists { lists = lists' } })) { descs = l } in v) (sym (ap (λ (x : Inside). (store_of x).descs) after_is))
      ∙ ap (λ l. to l (map (loan_in final.slots) rows) (unsent_in final.slots lists') (account_in final.pool)) (pipes_stay slots final.slots rows stay)
      ∙ ap (λ l. to (store_of a).pipes l (unsent_in final.slots lists') (account_in final.pool)) (loans_stay slots final.slots rows stay)
      ∙ ap (λ l. to (store_of a).pipes (store_of a).loans l (account_in final.pool)) unsent_is
      ∙ ap (λ c. to (store_of a).pipes (store_of a).loans (without_unsent (store_of a).unsent app buf) c)
      (returned_for a.desk.pool (asked_in (slot_at slots d)) d keeps.backed.tied.account out (keeps.backed.tied.sizes d live)).account
      ∙ ap (λ (o : Store). let v : Store = record o { unsent = without_unsent o.unsent app buf; account = returned o.account (asked_in (slot_at slots d)); descs = new.descs } in v) viewed

  pub freed_held : ((e : ℕ) → is_live (slot_at final.slots e) ≡ is_out final.pool e) →
      new ≡ record old { unsent = without_unsent old.unsent app buf; account = with_held old.account old.pipes new.unsent old.numbers_given; descs = new.descs }
  freed_held still_out =
      let is = ap (λ (o : Store). o.account) freed_store in
      let alone = alone_as old.account (returned old.account (asked_in (slot_at slots d))) new.account (returned_is_alone old.account (asked_in (slot_at slots d))) is in
      let law =
      held_law after freed_keeps still_out
      ∙ ap (λ l. with_held new.account l new.unsent a.given) (ap (λ (o : Store). o.pipes) freed_store)
      ∙ ap (λ (o : Store). with_held new.account old.pipes new.unsent o.numbers_given) viewed in
      freed_store
      ∙ ap (λ (c : Account). let v : Store = record old { unsent = without_unsent old.unsent app buf; account = c; descs = new.descs } in v)
      (sym is ∙ held_now old.account new.account old.pipes new.unsent old.numbers_given alone law)

  sizes_same : new.account.sizes ≡ old.account.sizes
  sizes_same = ap (λ (x : Inside). (store_of x).account.sizes) after_is ∙ ap (λ (o : Store). o.account.sizes) viewed

  pub freed_descs : (other : ℕ) → (buf ≡ other → ⊥) → desc_of new.descs other ≡ desc_of old.descs other
  freed_descs other apart =
      ap (λ (x : Inside). desc_of (store_of x).descs other) after_is
      ∙ desc_fewer slots final.slots a.lists.lists app d keeps.listed keeps.backed.tied.numbers backed.tied.numbers place mine closed others other (λ e. apart (sym numbered ∙ e))
      ∙ ap (λ (o : Store). desc_of o.descs other) viewed

  -- bags of the old store are bags of what the fields stood for
  was_held : (user : ℕ) (bag : Holding LentBytes) → HoldsBuffers old.unsent old.descs old.account.sizes user bag → HoldsBuffers (unsent_in slots a.lists.lists) (descs_in slots a.lists.lists) a.desk.pool.sizes user bag
  was_held user bag = subst (λ (o : Store). HoldsBuffers o.unsent o.descs o.account.sizes user bag) (sym viewed)

  now_held : (user : ℕ) (bag : Holding LentBytes) → HoldsBuffers (unsent_in final.slots lists') (descs_in final.slots lists') a.desk.pool.sizes user bag → HoldsBuffers new.unsent new.descs new.account.sizes user bag
  now_held user bag = subst (λ (x : Inside). HoldsBuffers (store_of x).unsent (store_of x).descs (store_of x).account.sizes user bag) (sym after_is)

  pub freed_others : (other : ℕ) (bag : Holding LentBytes) → (other ≡ app → ⊥) → HoldsBuffers old.unsent old.descs old.account.sizes other bag → HoldsBuffers new.unsent new.descs new.account.sizes other bag
  freed_others other bag apart holds =
      now_held other bag
      (others_fewer slots final.slots a.lists.lists app d keeps.listed keeps.backed.tied.numbers backed.tied.numbers place mine closed others a.desk.pool.sizes one other bag apart (was_held other bag holds))

  pub freed_bag : (held bag : Holding LentBytes) → HoldsBuffers old.unsent old.descs old.account.sizes app held →
      ((n : ℕ) → buffer_at bag n ≡ cond {A = Option UnsentBlock} (eqb buf n) None (buffer_at held n)) → HoldsBuffers new.unsent new.descs new.account.sizes app bag
  freed_bag held bag holds took =
      now_held app bag
      (bag_fewer slots final.slots a.lists.lists app d keeps.listed keeps.backed.tied.numbers backed.tied.numbers place mine closed others a.desk.pool.sizes one held bag (was_held app held holds)
      (λ n. took n ∙ ap (λ k. cond {A = Option UnsentBlock} (eqb k n) None (buffer_at held n)) (sym numbered)))

  pub freed_fewer : length (unsent_of new.unsent app) + 1 ≡ length (unsent_of old.unsent app)
  freed_fewer =
      let before = ap (λ (o : Store). length (unsent_of o.unsent app)) (sym viewed) ∙ ap length (unsent_of-lists slots a.lists.lists app) ∙ length-map (list_of a.lists.lists app) (buffer_in slots) in
      let now =
      ap (λ (x : Inside). length (unsent_of (store_of x).unsent app)) after_is
      ∙ ap length (unsent_of-lists final.slots lists' app)
      ∙ length-map (list_of lists' app) (buffer_in final.slots)
      ∙ ap (λ (l : List ℕ). length l) (same_list a.lists.lists app (without d (held_by a.lists app)) place) in
      let less = length_without d (list_of a.lists.lists app) mine (λ q. let one = times-one a.lists.lists (app - 1) q in let all = once slots a.lists.lists keeps.listed q in omega (arith, one, all)) in
      omega (arith, before, now, less)

-- all of it at once, for the desk that the block was given back to
pub record IsFreed (a : Inside) (old : Store) (app buf : ℕ) (final : Buffers) (next : HeldDescs) : Type 0 where
  pub keeps : Keeps (record a { desk = final; lists = next })
  pub store : ((e : ℕ) → is_live (slot_at final.slots e) ≡ is_out final.pool e) →
      store_of (record a { desk = final; lists = next }) ≡ record old {
        unsent = without_unsent old.unsent app buf;
        account = with_held old.account old.pipes (store_of (record a { desk = final; lists = next })).unsent old.numbers_given;
        descs = (store_of (record a { desk = final; lists = next })).descs;
      }
  pub descs : (other : ℕ) → (buf ≡ other → ⊥) → desc_of (store_of (record a { desk = final; lists = next })).descs other ≡ desc_of old.descs other
  pub others : (other : ℕ) (bag : Holding LentBytes) → (other ≡ app → ⊥) → HoldsBuffers old.unsent old.descs old.account.sizes other bag →
      HoldsBuffers (store_of (record a { desk = final; lists = next })).unsent (store_of (record a { desk = final; lists = next })).descs final.pool.sizes other bag
  pub bag : (held bag : Holding LentBytes) → HoldsBuffers old.unsent old.descs old.account.sizes app held →
      ((n : ℕ) → buffer_at bag n ≡ cond {A = Option UnsentBlock} (eqb buf n) None (buffer_at held n)) →
      HoldsBuffers (store_of (record a { desk = final; lists = next })).unsent (store_of (record a { desk = final; lists = next })).descs final.pool.sizes app bag
  pub fewer_left : length (unsent_of (store_of (record a { desk = final; lists = next })).unsent app) + 1 ≡ length (unsent_of old.unsent app)

pub is_freed : (a : Inside) (old : Store) (app buf d : ℕ) (desk : Buffers) (next : HeldDescs) → store_of a ≡ old → Keeps a →
    1 ≤ app → 0 < times_in (list_of a.lists.lists app) d → number_in (slot_at a.desk.slots d) ≡ buf →
    next ≡ record a.lists { lists = set a.lists.lists (app - 1) (without d (held_by a.lists app)) } →
    ((e : ℕ) → is_live (slot_at a.desk.slots e) ≡ is_out a.desk.pool e) → desk ≡ freed a.desk d → IsFreed a old app buf desk next
is_freed a old app buf d desk next viewed keeps one mine numbered went live_out is =
    subst (λ f. IsFreed a old app buf f next) (sym is) (record {
      keeps = freed_keeps a old app buf d next viewed keeps one mine numbered went live_out;
      store = freed_held a old app buf d next viewed keeps one mine numbered went live_out;
      descs = freed_descs a old app buf d next viewed keeps one mine numbered went live_out;
      others = freed_others a old app buf d next viewed keeps one mine numbered went live_out;
      bag = freed_bag a old app buf d next viewed keeps one mine numbered went live_out;
      fewer_left = freed_fewer a old app buf d next viewed keeps one mine numbered went live_out;
    })

-- The first of a list. --

-- a list without its first is the list without that one
pub without_newest : (a : Inside) (app d : ℕ) (next : HeldDescs) → Keeps a → held_by a.lists app ≡ d ∷ held_by next app → next ≡ record a.lists { lists = set a.lists.lists (app - 1) (drop 1 (held_by a.lists app)) } →
    next ≡ record a.lists { lists = set a.lists.lists (app - 1) (without d (held_by a.lists app)) }
without_newest a app d next keeps first is =
    is
    ∙ ap (λ (l : List ℕ). let v : HeldDescs = record a.lists { lists = set a.lists.lists (app - 1) l } in v)
    (ap (drop 1) first
    ∙ sym (without_head d (held_by next app) (held_by a.lists app) first
    (λ q. let one = times-one a.lists.lists (app - 1) q in let all = once a.desk.slots a.lists.lists keeps.listed q in omega (arith, one, all))))

module _ (a : Inside) (old : Store) (app d : ℕ) (rest : List ℕ) (viewed : store_of a ≡ old) (keeps : Keeps a) (first : held_by a.lists app ≡ d ∷ rest) where
  pub newest_mine : 0 < times_in (list_of a.lists.lists app) d
  newest_mine = subst (λ (l : List ℕ). 0 < times_in l d) (sym first) (first_in d rest)

  pub newest_live : is_live (slot_at a.desk.slots d) ≡ true
  newest_live = open_live (slot_at a.desk.slots d) (mine_open a.desk.slots a.lists.lists keeps.listed keeps.backed.tied.numbers app d newest_mine)

  pub newest_has : has_unsent old.unsent app (number_in (slot_at a.desk.slots d)) ≡ true
  newest_has =
      ap (λ (o : Store). has_unsent o.unsent app (number_in (slot_at a.desk.slots d))) (sym viewed)
      ∙ ap is_some (mine_found a.desk.slots a.lists.lists keeps.listed keeps.backed.tied.numbers app d newest_mine)

  -- a block of its number is this one
  pub newest_block : (block : UnsentBlock) → IsOf a.desk block → block.number ≡ number_in (slot_at a.desk.slots d) → block.desc ≡ d
  newest_block block own same =
      keeps.backed.tied.numbers block.desc d (ap is_live own.0) newest_live (ap number_in own.0 ∙ same)

-- an application that holds no block has no buffer
pub none_left : (a : Inside) (old : Store) (app : ℕ) → store_of a ≡ old → held_by a.lists app ≡ [] → unsent_of old.unsent app ≡ []
none_left a old app viewed none =
    ap (λ (o : Store). unsent_of o.unsent app) (sym viewed) ∙ unsent_of-lists a.desk.slots a.lists.lists app ∙ ap (map (buffer_in a.desk.slots)) none

-- a number that the application has is another than one that it hasn't
pub has_apart : (unsent : List (List Buffer)) (app n other : ℕ) → has_unsent unsent app n ≡ true → has_unsent unsent app other ≡ false → n ≡ other → ⊥
has_apart unsent app n other has none same = off (has_unsent unsent app other) none (ap (has_unsent unsent app) (sym same) ∙ has)
