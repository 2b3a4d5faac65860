-- Addresses and releases.
use Rattle.std.proofs.Common.{◌≡◌, ℕ, ◌+◌, ◌<◌, not, Bool, true, false, cond, eqb, Option, Some, None, is_some, List, length, set, refl, ap, sym, ◌∙◌, subst, arith}
use Rattle.std.specs.Option.{option_map, option_map_or}
use Rattle.std.proofs.lemmas.Bool.Decides.{nat_tests}
use Rattle.std.proofs.lemmas.List.{get_or-set_same}
use Rattle.fsw_base.specs.Limits.{Limits, limits_of}
use Rattle.lend_block.specs.Loan.{LentBytes}
use Rattle.tbl_words.specs.declared.calls.Told.{Told}
use Rattle.tbl_words.specs.declared.calls.Told.TheVariants.{Same, Updated, NeverLoaded}
use Rattle.tbl_words.specs.declared.calls.TblAnswer.TheVariants as answers
use Rattle.tbl_words.specs.declared.statuses.TblStatus.TheVariants.{ErrInvalidHandle}
use Rattle.tbl_words.specs.declared.history.Call.TheVariants.{GetAddress, ReleaseAddress}
use Rattle.tbl_words.specs.Tables as state
use Rattle.tbl_words.specs.Machine as machine
use Rattle.tbl_registry.specs.declared.rows.Handle.{Handle}
use Rattle.tbl_registry.specs.Listing.{Table, Listing, IsTied, handle_at, is_registered, with_handle, with_hold, without_hold}
use Rattle.tbl_registry.proofs.HandleNumbers.{same_number}
use Rattle.table_blocks.specs.Blocks.{Stored, with_content}
use Rattle.table_blocks.specs.Held.{HeldViews, held_at}
use Rattle.table_blocks.specs.Versions.{LentVersion}
use Rattle.table_blocks.specs.Contents.{Content, version_at, content_at, is_open, view_given, older_in}
use Rattle.table_core.specs.declared.plain.PlainTables.TheInside.{Inside}
use Rattle.table_core.specs.Core.{Plain, Holds, Acts}
use Rattle.table_core.specs.Answers.{told_by}
use Rattle.table_core.specs.Inside.{plain_of, means, table_in, table_with, handle_in, handle_with, Keeps}
use Rattle.table_core.specs.Views.{held_by, views_of, after_back, with_back}
use Rattle.table_core.proofs.OtherVersions.{key_room}
use Rattle.table_core.proofs.Figures.{HasContent}
use Rattle.table_core.proofs.Fields.{handle_here, table_here}
use Rattle.table_core.proofs.HandleViews.{reheld_keeps, reheld_acts, reheld_bag}
use Rattle.table_core.proofs.Relends.{Relends, back_relends, given_relends}
use Rattle.table_core.proofs.Returns.{set_set, content_set, back_tables, back_pool, back_most, view_out, few_views, told_before}

-- A release. --

module _ (a : Inside) (keeps : Keeps a) (tied : IsTied a.registry) (n : ℕ) (h : Handle) (found : handle_at a.registry.handles n ≡ Some h) (has : HasContent a h)
    (b : Stored) (back : b ≡ after_back a.blocks h.key h.held) where
  abbrev content : Content
  content = content_at a.blocks.tables h.key

  back_at : b.tables ≡ set a.blocks.tables h.key (Some (with_back content h.held))
  back_at = ap (λ (s : Stored). s.tables) back ∙ back_tables a.blocks h.key h.held has.present

  back_pool_at : b.pool ≡ a.blocks.pool
  back_pool_at = ap (λ (s : Stored). s.pool) back ∙ back_pool a.blocks h.key h.held

  back_most_at : b.most ≡ a.blocks.most
  back_most_at = ap (λ (s : Stored). s.most) back ∙ back_most a.blocks h.key h.held

  relends_back : Relends content (with_back content h.held) h.held None
  relends_back = back_relends content h.held (view_out a keeps tied n h found has)

  abbrev released : Listing
  released = record a.registry { handles = with_handle without_hold n a.registry.handles }

  pub release_keeps : (r : Listing) → r ≡ released → Keeps (record a { registry = r; blocks = b })
  release_keeps r is =
      subst (λ (l : Listing). let x : Inside = record a { registry = l; blocks = b } in Keeps x) (sym is)
      (reheld_keeps a keeps tied n h found has without_hold (λ k. (refl, refl, refl, refl)) b (with_back content h.held) back_at back_pool_at back_most_at relends_back (told_before a keeps tied n h found has) tt)

  release_does : handle_with (without_hold h) (content_at b.tables h.key) ≡ machine.without_hold (handle_in a.blocks.tables h)
  release_does =
      ap (λ v. told_as (not (eqb v h.told))) (ap (λ l. (content_at l h.key).version) back_at ∙ ap (λ (x : Content). x.version) (content_set a.blocks.tables h.key (with_back content h.held) within) ∙ relends_back.version)
    where
      told_as : Bool → state.Handle
      told_as marked = record { number = h.number; app = h.app; table = h.table; marked = marked; hold = None }

      within : h.key < length a.blocks.tables
      within = omega (arith, key_room a keeps tied h has, has.known)

  pub release_acts : (r : Listing) → r ≡ released → (old : Plain) → plain_of a ≡ old → (app : ℕ) → h.app ≡ app → machine.cause (limits_of a.config) (means a) app (ReleaseAddress n) ≡ None →
      Acts old (plain_of (record a { registry = r; blocks = b })) app (ReleaseAddress n) answers.Done
  release_acts r is old viewed app own free =
      subst (λ (l : Listing). let x : Inside = record a { registry = l; blocks = b } in Acts old (plain_of x) app (ReleaseAddress n) answers.Done) (sym is)
      (reheld_acts a keeps tied n h found has without_hold (λ k. (refl, refl, refl, refl)) b (with_back content h.held) back_at back_pool_at back_most_at relends_back (told_before a keeps tied n h found has) tt
      machine.without_hold release_does old viewed app own (ReleaseAddress n) answers.Done refl free refl)

  pub release_bag : (r : Listing) → r ≡ released → (app : ℕ) → h.app ≡ app → (bag new : HeldViews) → ((m : ℕ) → held_at new m ≡ cond {A = Option LentBytes} (eqb n m) None (held_at bag m)) → length new.views + views_of h ≡ length bag.views → new.room ≡ bag.room →
      Holds (plain_of a) app bag → Holds (plain_of (record a { registry = r; blocks = b })) app new
  release_bag r is app own bag new seen fewer room holds =
      subst (λ (l : Listing). let x : Inside = record a { registry = l; blocks = b } in Holds (plain_of x) app new) (sym is)
      (reheld_bag a keeps tied n h found has without_hold (λ k. (refl, refl, refl, refl)) b (with_back content h.held) back_at back_pool_at back_most_at relends_back (told_before a keeps tied n h found has) tt
      app own bag new seen (omega (arith, fewer)) room holds)

-- An address. --

-- what an address is told with
pub told_alike : (t : Table) (registered : Bool) (c : Content) (h : Handle) → machine.told_of (table_with registered t c) (handle_with h c) ≡ told_by h.told c.version
told_alike t registered c h = by_tests (eqb c.version 0) (eqb c.version h.told) (eqb h.told c.version) (either c.version h.told)
  where
    either : (m n : ℕ) → eqb m n ≡ eqb n m
    either m n = grind (arith, nat_tests)

    by_tests : (x y z : Bool) → y ≡ z → cond {A = Told} (not (not x)) NeverLoaded (cond {A = Told} (not y) Updated Same) ≡ cond {A = Told} x NeverLoaded (cond {A = Told} z Same Updated)
    by_tests true y z same = refl
    by_tests false true true same = refl
    by_tests false false false same = refl
    by_tests false true false never = absurd (cc (never))
    by_tests false false true never = absurd (cc (never))

module _ (a : Inside) (keeps : Keeps a) (tied : IsTied a.registry) (n : ℕ) (h : Handle) (found : handle_at a.registry.handles n ≡ Some h) (has : HasContent a h)
    (between : Stored) (back : between ≡ after_back a.blocks h.key h.held) where
  key_here : h.key < length a.blocks.tables
  key_here = omega (arith, key_room a keeps tied h has, has.known)

  left_at : content_at between.tables h.key ≡ with_back (content_at a.blocks.tables h.key) h.held
  left_at = ap (λ l. content_at l h.key) (back_at a keeps tied n h found has between back) ∙ content_set a.blocks.tables h.key (with_back (content_at a.blocks.tables h.key) h.held) key_here

  -- a view more may be out
  pub view_room_at : (content_at between.tables h.key).present.views < 4294967295
  view_room_at = omega (arith, ap (λ (c : Content). c.present.views) left_at, (relends_back a keeps tied n h found has between back).views, few_views a keeps tied n h found has)

  pub between_open_at : is_open between.tables h.key ≡ true
  between_open_at =
      ap (λ l. is_open l h.key) (back_at a keeps tied n h found has between back)
      ∙ ap is_some (get_or-set_same a.blocks.tables h.key (Some (with_back (content_at a.blocks.tables h.key) h.held)) None key_here)

module _ (a : Inside) (keeps : Keeps a) (tied : IsTied a.registry) (n : ℕ) (h : Handle) (found : handle_at a.registry.handles n ≡ Some h) (has : HasContent a h)
    (between b : Stored) (back : between ≡ after_back a.blocks h.key h.held) (given : b ≡ with_content between h.key (view_given (content_at between.tables h.key))) where
  within : h.key < length a.blocks.tables
  within = key_here a keeps tied n h found has between back

  abbrev old : Content
  old = content_at a.blocks.tables h.key

  abbrev left : Content
  left = with_back old h.held

  between_at : content_at between.tables h.key ≡ left
  between_at = left_at a keeps tied n h found has between back

  given_at : b.tables ≡ set a.blocks.tables h.key (Some (view_given left))
  given_at =
      ap (λ (s : Stored). s.tables) given
      ∙ ap (λ (c : Content). set between.tables h.key (Some (view_given c))) between_at
      ∙ ap (λ l. set l h.key (Some (view_given left))) (back_at a keeps tied n h found has between back)
      ∙ set_set a.blocks.tables h.key (Some left) (Some (view_given left))

  given_pool : b.pool ≡ a.blocks.pool
  given_pool = ap (λ (s : Stored). s.pool) given ∙ back_pool_at a keeps tied n h found has between back

  given_most : b.most ≡ a.blocks.most
  given_most = ap (λ (s : Stored). s.most) given ∙ back_most_at a keeps tied n h found has between back

  relends_left : Relends old left h.held None
  relends_left = relends_back a keeps tied n h found has between back

  -- the version that it is told of
  pub version_told : (content_at between.tables h.key).version ≡ old.version
  version_told = ap (λ (c : Content). c.version) between_at ∙ relends_left.version

  module _ (v : ℕ) (is : v ≡ (content_at between.tables h.key).version) where
    version_is : v ≡ old.version
    version_is = is ∙ version_told

    so : Relends old (view_given left) h.held (Some v)
    so = subst (λ u. Relends old (view_given left) h.held (Some u)) (sym (version_is ∙ sym relends_left.version)) (given_relends old left h.held relends_left)

    abbrev addressed : Listing
    addressed = record a.registry { handles = with_handle (with_hold v) n a.registry.handles }

    pub address_keeps : (r : Listing) → r ≡ addressed → Keeps (record a { registry = r; blocks = b })
    address_keeps r here =
        subst (λ (l : Listing). let x : Inside = record a { registry = l; blocks = b } in Keeps x) (sym here)
        (reheld_keeps a keeps tied n h found has (with_hold v) (λ k. (refl, refl, refl, refl)) b (view_given left) given_at given_pool given_most so (omega (arith, version_is)) (λ apart. absurd (apart version_is)))

    abbrev F : state.Handle → state.Handle
    F = machine.with_hold old.version old.present.bytes

    version_here : version_at (view_given left) v ≡ (view_given left).present
    version_here = ap (λ x. cond {A = LentVersion} x (view_given left).present (older_in left.next)) (same_number v left.version (version_is ∙ sym relends_left.version))

    abbrev told_as : Bool → ℕ → List ℕ → state.Handle
    told_as marked version value = record { number = h.number; app = h.app; table = h.table; marked = marked; hold = Some (record { version = version; value = value }) }

    address_does : handle_with (with_hold v h) (content_at b.tables h.key) ≡ F (handle_in a.blocks.tables h)
    address_does =
        ap (handle_with (with_hold v h)) (ap (λ l. content_at l h.key) given_at ∙ content_set a.blocks.tables h.key (view_given left) within)
        ∙ ap (λ x. told_as (not x) v (version_at (view_given left) v).bytes) (same_number left.version v (relends_left.version ∙ sym version_is))
        ∙ ap (λ (x : LentVersion). told_as false v x.bytes) version_here
        ∙ ap (λ u. told_as false u left.present.bytes) version_is
        ∙ ap (told_as false old.version) relends_left.bytes

    -- what the machine answers and leaves
    address_accepted : (limits : Limits) (app : ℕ) → machine.accept limits (means a) app (GetAddress n) ≡ (answers.Address (told_by h.told old.version) old.version, record (means a) { handles = state.with_handle F n (means a).handles })
    address_accepted limits app =
        ap (λ o. (
          option_map_or (λ k. option_map_or (λ t. answers.Address (machine.told_of t k) t.version) o (answers.Refused ErrInvalidHandle)) (state.handle_at (means a).handles n) (answers.Refused ErrInvalidHandle),
          option_map_or (λ (t : state.Table). let s : state.State = record (means a) { handles = state.with_handle (machine.with_hold t.version t.value) n (means a).handles } in s) o (means a),
        )) (table_here a tied n h found has.t has.there)
        ∙ ap (λ o. (option_map_or (λ k. answers.Address (machine.told_of (table_in a.registry.handles a.blocks.tables has.t) k) (table_in a.registry.handles a.blocks.tables has.t).version) o (answers.Refused ErrInvalidHandle), after_of (content_at a.blocks.tables has.t.key))) (handle_here a n ∙ ap (option_map (handle_in a.blocks.tables)) found)
        ∙ ap (λ (c : Content). (answers.Address (machine.told_of (table_with (is_registered a.registry.handles has.t) has.t c) (handle_in a.blocks.tables h)) c.version, after_of c)) (ap (content_at a.blocks.tables) has.known)
        ∙ ap (λ told. (answers.Address told old.version, after_of old)) (told_alike has.t (is_registered a.registry.handles has.t) old h)
      where
        after_of : Content → state.State
        after_of c = record (means a) { handles = state.with_handle (machine.with_hold c.version c.present.bytes) n (means a).handles }

    pub address_acts : (r : Listing) → r ≡ addressed → (core : Plain) → plain_of a ≡ core → (app : ℕ) → h.app ≡ app → machine.cause (limits_of a.config) (means a) app (GetAddress n) ≡ None → (told : Told) → told ≡ told_by h.told v →
        Acts core (plain_of (record a { registry = r; blocks = b })) app (GetAddress n) (answers.Address told v)
    address_acts r here core viewed app own free told telling =
        subst (λ (l : Listing). let x : Inside = record a { registry = l; blocks = b } in Acts core (plain_of x) app (GetAddress n) (answers.Address told v)) (sym here)
        (reheld_acts a keeps tied n h found has (with_hold v) (λ k. (refl, refl, refl, refl)) b (view_given left) given_at given_pool given_most so (omega (arith, version_is)) (λ apart. absurd (apart version_is))
        F address_does core viewed app own (GetAddress n) (answers.Address told v) refl free
        (address_accepted (limits_of a.config) app
        ∙ sym (ap (λ x. (answers.Address x v, after_of)) telling ∙ ap (λ u. (answers.Address (told_by h.told u) u, after_of)) version_is)))
      where
        after_of : state.State
        after_of = record (means a) { handles = state.with_handle F n (means a).handles }

    pub address_bag : (r : Listing) → r ≡ addressed → (app : ℕ) → h.app ≡ app → (view : LentBytes) → view ≡ record { loan = (content_at between.tables h.key).present.loan; bytes = (content_at between.tables h.key).present.bytes } → (bag out new : HeldViews) →
        ((m : ℕ) → held_at out m ≡ cond {A = Option LentBytes} (eqb n m) None (held_at bag m)) → ((m : ℕ) → held_at new m ≡ cond {A = Option LentBytes} (eqb n m) (Some view) (held_at out m)) →
        length out.views + views_of h ≡ length bag.views → length new.views ≡ length out.views + 1 → out.room ≡ bag.room → new.room ≡ out.room →
        Holds (plain_of a) app bag → Holds (plain_of (record a { registry = r; blocks = b })) app new
    address_bag r here app own view shows bag out new gone seen fewer more same_room room holds =
        subst (λ (l : Listing). let x : Inside = record a { registry = l; blocks = b } in Holds (plain_of x) app new) (sym here)
        (reheld_bag a keeps tied n h found has (with_hold v) (λ k. (refl, refl, refl, refl)) b (view_given left) given_at given_pool given_most so (omega (arith, version_is)) (λ apart. absurd (apart version_is))
        app own bag new sees (omega (arith, fewer, more)) (room ∙ same_room) holds)
      where
        view_is : Some view ≡ held_by (view_given left) (with_hold v h)
        view_is =
            ap (λ (x : LentBytes). Some x) (shows ∙ ap (λ (c : Content). let x : LentBytes = record { loan = c.present.loan; bytes = c.present.bytes } in x) between_at)
            ∙ sym (ap (λ (y : LentVersion). let x : LentBytes = record { loan = y.loan; bytes = y.bytes } in Some x) version_here)

        by_same : (x : Bool) (o : Option LentBytes) → cond {A = Option LentBytes} x (Some view) (cond {A = Option LentBytes} x None o) ≡ cond {A = Option LentBytes} x (held_by (view_given left) (with_hold v h)) o
        by_same true o = view_is
        by_same false o = refl

        sees : (m : ℕ) → held_at new m ≡ cond {A = Option LentBytes} (eqb n m) (held_by (view_given left) (with_hold v h)) (held_at bag m)
        sees m = seen m ∙ ap (cond {A = Option LentBytes} (eqb n m) (Some view)) (gone m) ∙ by_same (eqb n m) (held_at bag m)
