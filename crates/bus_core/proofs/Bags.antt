-- The applications' bags, at the store and at the core.
use Rattle.std.proofs.Common.{◌≡◌, ℕ, Bool, true, false, cond, eqb, List, [], ◌∷◌, ◌++◌, find, Option, Some, None, refl, ap, sym, ◌∙◌, subst}
use Rattle.std.specs.Option.{option_map, option_map_or}
use Rattle.fsw_base.specs.Limits.{Limits, limits_of}
use Rattle.lend_block.specs.Loan.{LentBytes}
use Rattle.buf_desc.specs.Block.{Unsent as UnsentBlock}
use Rattle.buf_desc.specs.Held.{Holding, buffer_at}
use Rattle.bus_routes.specs.Tables.{Room}
use Rattle.bus_messages.specs.Bag.{HoldsViews, HoldsBuffers, HoldsBuffer, shape_of, with_lent}
use Rattle.bus_messages.specs.Store.{Store, LastLoan}
use Rattle.bus_messages.specs.Words.{loan_of, desc_of}
use Rattle.bus_core.specs.declared.plain.PlainBus.TheInside.{Inside}
use Rattle.bus_core.specs.Bags.{HasBag, HasOwnViews, HasBuffer, KeepsBag, KeepsBags, KeepsOtherBags}
use Rattle.bus_core.specs.Core.{Plain}
use Rattle.bus_core.specs.Inside.{plain_of, AreInOrder}

-- the bag has the application's views, as the store tells it
abbrev pub HasViews : Store → ℕ → Holding LentBytes → Type 0
HasViews store app bag = HoldsViews store.pipes store.loans store.room.pipes app bag

-- the bag has the blocks of the application's unsent buffers, as the store tells it
abbrev pub HasBlocks : Store → ℕ → Holding LentBytes → Type 0
HasBlocks store app bag = HoldsBuffers store.unsent store.descs store.account.sizes app bag

-- the bag has the block of the application's unsent buffer of this number, as the store tells it
abbrev pub HasBlock : Store → ℕ → Holding LentBytes → ℕ → Type 0
HasBlock store app bag number = HoldsBuffer store.unsent store.descs store.account.sizes app bag number

-- the unsent buffers stay as they are
pub record SameBuffers (old new : Store) : Type 0 where
  pub unsent : new.unsent ≡ old.unsent
  pub descs : new.descs ≡ old.descs
  pub sizes : new.account.sizes ≡ old.account.sizes

pub still_blocks : (old new : Store) (app : ℕ) (bag : Holding LentBytes) → SameBuffers old new → HasBlocks old app bag → HasBlocks new app bag
still_blocks old new app bag same has =
    subst (λ u. HoldsBuffers u new.descs new.account.sizes app bag) (sym same.unsent)
    (subst (λ d. HoldsBuffers old.unsent d new.account.sizes app bag) (sym same.descs)
    (subst (λ l. HoldsBuffers old.unsent old.descs l app bag) (sym same.sizes) has))

-- other views leave the blocks
pub viewed_blocks : (store : Store) (app : ℕ) (bag now : Holding LentBytes) → now ≡ record bag { views = now.views } → HasBlocks store app bag → HasBlocks store app now
viewed_blocks store app bag now is has = record { known = has.known; due = λ n. ap (λ (h : Holding LentBytes). option_map shape_of (buffer_at h n)) is ∙ has.due n }

-- other blocks leave the views
pub blocked_views : (store : Store) (app : ℕ) (bag now : Holding LentBytes) → now ≡ record bag { buffers = now.buffers } → HasViews store app bag → HasViews store app now
blocked_views store app bag now is has =
    subst (λ (h : Holding LentBytes). HasViews store app h) (sym is) (record { seen = has.seen; counted = has.counted; room = has.room })

-- the same pipes leave the views
pub views_still : (old new : Store) (app : ℕ) (bag : Holding LentBytes) → new.pipes ≡ old.pipes → new.loans ≡ old.loans → new.room ≡ old.room → HasViews old app bag → HasViews new app bag
views_still old new app bag pipes loans room has =
    subst (λ ps. HoldsViews ps new.loans new.room.pipes app bag) (sym pipes)
    (subst (λ l. HoldsViews old.pipes l new.room.pipes app bag) (sym loans)
    (subst (λ (r : Room). HoldsViews old.pipes old.loans r.pipes app bag) (sym room) has))

-- there are as many pipes at most as the limits say
most_pipes : (a b : Inside) → AreInOrder a → limits_of b.config ≡ limits_of a.config → b.store.room ≡ a.store.room → b.store.room.pipes ≡ (limits_of b.config).pipes
most_pipes a b keeps limits room = ap (λ (r : Room). r.pipes) (room ∙ keeps.room) ∙ sym (ap (λ (l : Limits). l.pipes) limits)

module _ (a : Inside) (old : Plain) (viewed : plain_of a ≡ old) (keeps : AreInOrder a) where
  -- a bag before the call
  pub views_before : (app : ℕ) (bag : Holding LentBytes) → HasOwnViews old app bag → HasViews a.store app bag
  views_before app bag has =
      let here : HasOwnViews (plain_of a) app bag = subst (λ o. HasOwnViews o app bag) (sym viewed) has in
      subst (λ n. HoldsViews a.store.pipes a.store.loans n app bag) (sym (ap (λ (r : Room). r.pipes) keeps.room)) here

  pub bag_before : (app : ℕ) (bag : Holding LentBytes) → HasBag old app bag → HasViews a.store app bag
  bag_before app bag has = views_before app bag has.views

  pub block_before : (app : ℕ) (bag : Holding LentBytes) (number : ℕ) → HasBuffer old app bag number → HasBlock a.store app bag number
  block_before app bag number has =
      let here : HasBuffer (plain_of a) app bag number = subst (λ o. HasBuffer o app bag number) (sym viewed) has in
      subst (λ l. HoldsBuffer a.store.unsent a.store.descs l app bag number) (sym keeps.pool.sizes) here

  pub blocks_before : (app : ℕ) (bag : Holding LentBytes) → HasBag old app bag → HasBlocks a.store app bag
  blocks_before app bag has =
      let here : HasBag (plain_of a) app bag = subst (λ o. HasBag o app bag) (sym viewed) has in
      subst (λ l. HoldsBuffers a.store.unsent a.store.descs l app bag) (sym keeps.pool.sizes) here.buffers

  module _ (b : Inside) (limits : limits_of b.config ≡ limits_of a.config) (room : b.store.room ≡ a.store.room) where
    -- a bag after it
    pub bag_after : b.store.account.sizes ≡ a.store.account.sizes → (app : ℕ) (bag : Holding LentBytes) → HasViews b.store app bag → HasBlocks b.store app bag → HasBag (plain_of b) app bag
    bag_after sizes app bag has blocks = record {
      views = subst (λ n. HoldsViews b.store.pipes b.store.loans n app bag) (most_pipes a b keeps limits room) has;
      buffers = subst (λ l. HoldsBuffers b.store.unsent b.store.descs l app bag) (sizes ∙ keeps.pool.sizes ∙ sym (ap (λ (l : Limits). l.sizes) limits)) blocks;
    }

    pub bags_kept : SameBuffers a.store b.store → ((app : ℕ) (bag : Holding LentBytes) → HasViews a.store app bag → HasViews b.store app bag) → KeepsBags old (plain_of b)
    bags_kept same kept = λ app bag has.
        bag_after same.sizes app bag (kept app bag (bag_before app bag has)) (still_blocks a.store b.store app bag same (blocks_before app bag has))

    pub others_kept : (app : ℕ) → SameBuffers a.store b.store → ((other : ℕ) (bag : Holding LentBytes) → (other ≡ app → ⊥) → HasViews a.store other bag → HasViews b.store other bag) → KeepsOtherBags old (plain_of b) app
    others_kept app same kept = λ other bag apart has.
        bag_after same.sizes other bag (kept other bag apart (bag_before other bag has)) (still_blocks a.store b.store other bag same (blocks_before other bag has))

    -- if an application's own buffers change
    pub others_left : (app : ℕ) → b.store.account.sizes ≡ a.store.account.sizes → ((other : ℕ) (bag : Holding LentBytes) → (other ≡ app → ⊥) → HasViews a.store other bag → HasViews b.store other bag) →
        ((other : ℕ) (bag : Holding LentBytes) → (other ≡ app → ⊥) → HasBlocks a.store other bag → HasBlocks b.store other bag) → KeepsOtherBags old (plain_of b) app
    others_left app sizes views blocks = λ other bag apart has.
        bag_after sizes other bag (views other bag apart (bag_before other bag has)) (blocks other bag apart (blocks_before other bag has))

    -- the application's own, if its views change
    pub own_viewed : SameBuffers a.store b.store → (app : ℕ) (bag now : Holding LentBytes) → now ≡ record bag { views = now.views } → HasBag old app bag → HasViews b.store app now → HasBag (plain_of b) app now
    own_viewed same app bag now is has views =
        bag_after same.sizes app now views (viewed_blocks b.store app bag now is (still_blocks a.store b.store app bag same (blocks_before app bag has)))

    -- the same with the blocks put back that are lent out
    pub part_viewed : SameBuffers a.store b.store → (app : ℕ) (bag now : Holding LentBytes) → now ≡ record bag { views = now.views } → HasViews b.store app now → KeepsBag old (plain_of b) app bag now
    part_viewed same app bag now is views = λ lent has.
        own_viewed same app (with_lent bag lent) (with_lent now lent) (ap (λ (h : Holding LentBytes). with_lent h lent) is) has
        (record { seen = views.seen; counted = views.counted; room = views.room })

    -- the application's own, if its buffers change
    pub part_blocked : b.store.account.sizes ≡ a.store.account.sizes → (app : ℕ) (bag now : Holding LentBytes) → now ≡ record bag { buffers = now.buffers } →
        ((held : Holding LentBytes) → HasViews a.store app held → HasViews b.store app held) → (lent : List UnsentBlock) →
        (HasBlocks a.store app (with_lent bag lent) → HasBlocks b.store app (with_lent now lent)) → HasBag old app (with_lent bag lent) → HasBag (plain_of b) app (with_lent now lent)
    part_blocked sizes app bag now is views lent blocks has =
        bag_after sizes app (with_lent now lent)
        (blocked_views b.store app (with_lent bag lent) (with_lent now lent) (ap (λ (h : Holding LentBytes). with_lent h lent) is) (views (with_lent bag lent) (bag_before app (with_lent bag lent) has)))
        (blocks (blocks_before app (with_lent bag lent) has))

  -- the loans and the descriptors before the call
  pub loan_before : (pipe : ℕ) → loan_of a.store.loans pipe ≡ loan_of old.loans pipe
  loan_before pipe = ap (λ (o : Plain). loan_of o.loans pipe) viewed

  pub desc_before : (number : ℕ) → desc_of a.store.descs number ≡ desc_of old.descs number
  desc_before number = ap (λ (o : Plain). desc_of o.descs number) viewed

-- a pipe more, of which nothing is lent
pub loan_pushed : (loans : List LastLoan) (number pipe : ℕ) → loan_of (loans ++ record { pipe = number; loan = 0 } ∷ []) pipe ≡ loan_of loans pipe
loan_pushed [] number pipe = by_test (eqb number pipe)
  where
    by_test : (b : Bool) → option_map_or {U = ℕ} (λ (one : LastLoan). one.loan) (cond {A = Option LastLoan} b (Some (record { pipe = number; loan = 0 })) None) 0 ≡ 0
    by_test true = refl
    by_test false = refl
loan_pushed (one ∷ loans) number pipe = by_test (eqb one.pipe pipe) (loan_pushed loans number pipe)
  where
    told : Option LastLoan → ℕ
    told o = option_map_or {U = ℕ} (λ (it : LastLoan). it.loan) o 0

    later : List LastLoan → Option LastLoan
    later l = find (λ (it : LastLoan). eqb it.pipe pipe) l

    by_test : (b : Bool) → told (later (loans ++ record { pipe = number; loan = 0 } ∷ [])) ≡ told (later loans) →
        told (cond {A = Option LastLoan} b (Some one) (later (loans ++ record { pipe = number; loan = 0 } ∷ []))) ≡ told (cond {A = Option LastLoan} b (Some one) (later loans))
    by_test true ih = refl
    by_test false ih = ih
