-- What a handle has, as it goes back.
use Rattle.std.proofs.Common.{◌≡◌, ℕ, zero, suc, ◌+◌, ◌<◌, ◌≤◌, ◌&&◌, not, Bool, true, false, cond, eqb, Option, Some, None, is_some, List, [], ◌∷◌, length, set, find, count_by, refl, ap, sym, ◌∙◌, subst, arith}
use Rattle.std.specs.Option.{IfSome, option_map_or}
use Rattle.std.proofs.lemmas.List.{get_or-set_same, set-get_or}
use Rattle.std.proofs.lemmas.List.Sums.{sum_by-cons, count_by-le-length}
use Rattle.lend_block.specs.Loan.{LentBytes}
use Rattle.tbl_registry.specs.declared.rows.Handle.{Handle}
use Rattle.tbl_registry.specs.Listing.{IsTied, handle_at}
use Rattle.tbl_registry.proofs.HandleNumbers.{same_number}
use Rattle.table_blocks.specs.Blocks.{Stored}
use Rattle.table_blocks.specs.Held.{HeldViews, held_at}
use Rattle.table_blocks.specs.Contents.{Content, no_content, version_at, content_at, kept_at, is_open, older_in}
use Rattle.table_core.specs.declared.plain.PlainTables.TheInside.{Inside}
use Rattle.table_core.specs.Core.{Holds}
use Rattle.table_core.specs.Inside.{plain_of, is_this, is_other, IsRecent, Keeps}
use Rattle.table_core.specs.Views.{held_by, views_of, after_back, with_back}
use Rattle.table_core.proofs.Bags.{held_view, due_by, is_due, due_here, dues_here}
use Rattle.table_core.proofs.Figures.{HasContent}
use Rattle.table_core.proofs.Fields.{found_all}

-- Lists with one place set. --

pub set_set : {X : Type 0} (xs : List X) (i : ℕ) (x y : X) → set (set xs i x) i y ≡ set xs i y
set_set [] i x y = refl
set_set (z ∷ xs) zero x y = refl
set_set (z ∷ xs) (suc i) x y = ap (λ l. z ∷ l) (set_set xs i x y)

pub content_set : (contents : List (Option Content)) (key : ℕ) (c : Content) → key < length contents → content_at (set contents key (Some c)) key ≡ c
content_set contents key c within = ap (λ o. option_map_or (λ (x : Content). x) o no_content) (get_or-set_same contents key (Some c) None within)

kept_content : (contents : List (Option Content)) (key : ℕ) → is_open contents key ≡ true → kept_at contents key ≡ Some (content_at contents key)
kept_content contents key there = by_kept (kept_at contents key) there
  where
    by_kept : (o : Option Content) → is_some o ≡ true → o ≡ Some (option_map_or (λ (x : Content). x) o no_content)
    by_kept None never = absurd (cc (never))
    by_kept (Some c) is = refl

-- Counts with one that was found. --

pub counted_found : {X : Type 0} (p q : X → Bool) (xs : List X) (x : X) → find q xs ≡ Some x → p x ≡ true → 1 ≤ count_by p xs
counted_found p q [] x never is = absurd (cc (never))
counted_found {X} p q (y ∷ xs) x here is = by_test (q y) (λ rest. counted_found p q xs x rest is) here
  where
    some_is : Some y ≡ Some x → y ≡ x
    some_is same = ap (λ o. option_map_or (λ w. w) o y) same

    by_test : (b : Bool) → (find q xs ≡ Some x → 1 ≤ count_by p xs) → cond {A = Option X} b (Some y) (find q xs) ≡ Some x → 1 ≤ count_by p (y ∷ xs)
    by_test true ih it = omega (arith, sum_by-cons (λ z. cond {A = ℕ} (p z) 1 0) y xs, ap (λ b. cond {A = ℕ} b 1 0) (ap p (some_is it) ∙ is))
    by_test false ih rest = omega (arith, sum_by-cons (λ z. cond {A = ℕ} (p z) 1 0) y xs, ih rest)

pub counted_but_one : {X : Type 0} (p q : X → Bool) (xs : List X) (x : X) → find q xs ≡ Some x → p x ≡ false → count_by p xs + 1 ≤ length xs
counted_but_one p q [] x never is = absurd (cc (never))
counted_but_one {X} p q (y ∷ xs) x here is = by_test (q y) (λ rest. counted_but_one p q xs x rest is) here
  where
    some_is : Some y ≡ Some x → y ≡ x
    some_is same = ap (λ o. option_map_or (λ w. w) o y) same

    at_most : (b : Bool) → cond {A = ℕ} b 1 0 ≤ 1
    at_most true = omega arith
    at_most false = omega arith

    by_test : (b : Bool) → (find q xs ≡ Some x → count_by p xs + 1 ≤ length xs) → cond {A = Option X} b (Some y) (find q xs) ≡ Some x → count_by p (y ∷ xs) + 1 ≤ length (y ∷ xs)
    by_test true ih it = omega (arith, sum_by-cons (λ z. cond {A = ℕ} (p z) 1 0) y xs, ap (λ b. cond {A = ℕ} b 1 0) (ap p (some_is it) ∙ is), count_by-le-length p xs)
    by_test false ih rest = omega (arith, sum_by-cons (λ z. cond {A = ℕ} (p z) 1 0) y xs, at_most (p y), ih rest)

-- What goes back. --

pub back_tables : (s : Stored) (key : ℕ) (held : Option ℕ) → is_open s.tables key ≡ true → (after_back s key held).tables ≡ set s.tables key (Some (with_back (content_at s.tables key) held))
back_tables s key None there = sym (ap (set s.tables key) (sym (kept_content s.tables key there)) ∙ set_kept s.tables key)
  where
    set_kept : (xs : List (Option Content)) (i : ℕ) → set xs i (kept_at xs i) ≡ xs
    set_kept xs i = set-get_or xs i None
back_tables s key (Some v) there = refl

pub back_pool : (s : Stored) (key : ℕ) (held : Option ℕ) → (after_back s key held).pool ≡ s.pool
back_pool s key None = refl
back_pool s key (Some v) = refl

pub back_most : (s : Stored) (key : ℕ) (held : Option ℕ) → (after_back s key held).most ≡ s.most
back_most s key None = refl
back_most s key (Some v) = refl

module _ (a : Inside) (keeps : Keeps a) (tied : IsTied a.registry) (n : ℕ) (h : Handle) (found : handle_at a.registry.handles n ≡ Some h) (has : HasContent a h) where
  -- what a handle holds has a view out
  pub view_out : (v : ℕ) → h.held ≡ Some v → 1 ≤ (version_at (content_at a.blocks.tables h.key) v).views
  view_out v is = subst (λ key. 1 ≤ (version_at (content_at a.blocks.tables key) v).views) has.known (by_version (eqb v (content_at a.blocks.tables has.t.key).version) refl)
    where
      its : (p : Option ℕ → Bool) → p h.held ≡ true → 1 ≤ count_by (λ (k : Handle). eqb k.table has.t.number && p k.held) a.registry.handles
      its p here =
          counted_found (λ (k : Handle). eqb k.table has.t.number && p k.held) (λ k. eqb k.number n) a.registry.handles h found
          (ap (λ x. x && p h.held) (same_number h.table has.t.number (sym has.number)) ∙ here)

      by_version : (b : Bool) → eqb v (content_at a.blocks.tables has.t.key).version ≡ b → 1 ≤ (version_at (content_at a.blocks.tables has.t.key) v).views
      by_version true same =
          omega (
            arith,
            ap (λ b. (cond b (content_at a.blocks.tables has.t.key).present (older_in (content_at a.blocks.tables has.t.key).next)).views) same,
            has.filled.views,
            its (is_this (content_at a.blocks.tables has.t.key).version) (ap (is_this (content_at a.blocks.tables has.t.key).version) is ∙ same),
          )
      by_version false other =
          omega (
            arith,
            ap (λ b. (cond b (content_at a.blocks.tables has.t.key).present (older_in (content_at a.blocks.tables has.t.key).next)).views) other,
            has.filled.older_views,
            its (is_other (content_at a.blocks.tables has.t.key).version) (ap (is_other (content_at a.blocks.tables has.t.key).version) is ∙ ap not other),
          )

  pub views_out : IfSome h.held (λ version. 1 ≤ (version_at (content_at a.blocks.tables h.key) version).views)
  views_out = by_held h.held (λ v is. view_out v is)
    where
      by_held : (o : Option ℕ) → ((v : ℕ) → o ≡ Some v → 1 ≤ (version_at (content_at a.blocks.tables h.key) v).views) → IfSome o (λ version. 1 ≤ (version_at (content_at a.blocks.tables h.key) version).views)
      by_held None some = tt
      by_held (Some v) some = some v refl

  pub told_before : h.told ≤ (content_at a.blocks.tables h.key).version
  told_before =
      subst (λ key. h.told ≤ (content_at a.blocks.tables key).version) has.known
      (found_all (λ (k : Handle). k.table ≡ has.t.number → k.told ≤ (content_at a.blocks.tables has.t.key).version) (λ k. eqb k.number n) a.registry.handles h has.filled.told found (sym has.number))

  pub recent_here : IsRecent (content_at a.blocks.tables h.key).version h.held
  recent_here =
      subst (λ key. IsRecent (content_at a.blocks.tables key).version h.held) has.known
      (found_all (λ (k : Handle). k.table ≡ has.t.number → IsRecent (content_at a.blocks.tables has.t.key).version k.held) (λ k. eqb k.number n) a.registry.handles h has.filled.recent found (sym has.number))

  pub few_views : (content_at a.blocks.tables h.key).present.views ≤ 1024
  few_views =
      subst (λ key. (content_at a.blocks.tables key).present.views ≤ 1024) has.known
      (omega (arith, has.filled.views, count_by-le-length (λ (k : Handle). eqb k.table has.t.number && is_this (content_at a.blocks.tables has.t.key).version k.held) a.registry.handles, tied.handles_few, keeps.handle_room, a.config.handles_in_range.1))

  module _ (app : ℕ) (own : h.app ≡ app) (bag : HeldViews) (holds : Holds (plain_of a) app bag) where
    -- the bag has its view
    pub its_view : held_at bag n ≡ held_by (content_at a.blocks.tables h.key) h
    its_view =
        holds.seen n ∙ due_here a app n
        ∙ ap (λ o. due_by a.blocks.tables app o) found
        ∙ ap (λ x. cond {A = Option LentBytes} x (held_view a.blocks.tables h) None) (same_number h.app app own)

    -- and room for one once it is out
    pub room_left : (left : HeldViews) → length left.views + views_of h ≡ length bag.views → left.room ≡ bag.room → length left.views < left.room
    room_left left fewer room = by_held h.held refl
      where
        least : (b : Bool) → is_some h.held ≡ b → eqb h.app app && is_some h.held ≡ b
        least b is = ap (λ x. x && is_some h.held) (same_number h.app app own) ∙ is

        by_held : (o : Option ℕ) → h.held ≡ o → length left.views < left.room
        by_held None is =
            omega (
              arith,
              fewer,
              ap (λ (x : Option ℕ). cond {A = ℕ} (is_some x) 1 0) is,
              room,
              holds.room,
              holds.counted,
              dues_here a app,
              tied.handles_few,
              keeps.handle_room,
              counted_but_one (is_due app) (λ (k : Handle). eqb k.number n) a.registry.handles h found (least false (ap is_some is)),
            )
        by_held (Some v) is =
            omega (
              arith,
              fewer,
              ap (λ (x : Option ℕ). cond {A = ℕ} (is_some x) 1 0) is,
              room,
              holds.room,
              holds.counted,
              dues_here a app,
              tied.handles_few,
              keeps.handle_room,
              count_by-le-length (is_due app) a.registry.handles,
            )
