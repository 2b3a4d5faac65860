-- What an application has in its bag, by the handles of the registry and what is kept of their tables.
use Rattle.std.proofs.Common.{◌≡◌, ℕ, ◌&&◌, Bool, true, false, cond, eqb, Option, Some, None, is_some, List, [], ◌∷◌, ◌++◌, get_or, count_by, All, refl, ap, sym, ◌∙◌, arith}
use Rattle.std.specs.Option.{option_map, option_map_or, option_and_then, option_or}
use Rattle.std.proofs.lemmas.Bool.Decides.{nat_tests}
use Rattle.std.proofs.lemmas.List.Folds.{find-append}
use Rattle.std.proofs.lemmas.List.Sums.{sum_by_push}
use Rattle.fsw_base.proofs.Lists.{count_by-map, find-map}
use Rattle.fsw_base.specs.Limits.{Limits, limits_of}
use Rattle.lend_block.specs.Loan.{LentBytes}
use Rattle.tbl_words.specs.Tables as state
use Rattle.tbl_registry.specs.declared.rows.Handle.{Handle}
use Rattle.tbl_registry.specs.Listing.{handle_at}
use Rattle.table_blocks.specs.Blocks.{Stored}
use Rattle.table_blocks.specs.Contents.{Content, version_at, content_at}
use Rattle.table_blocks.specs.Held.{HeldViews}
use Rattle.table_core.specs.declared.plain.PlainTables.TheInside.{Inside}
use Rattle.table_core.specs.Core.{Lent, loan_of, view_of, view_due, views_due, Holds}
use Rattle.table_core.specs.Inside.{plain_of, handle_in, hold_of, lent_in}
use Rattle.table_core.specs.Views.{held_by}
use Rattle.table_core.proofs.Fields.{count_alike, found_all, handle_here}

-- the view of what a handle holds
abbrev pub held_view : List (Option Content) → Handle → Option LentBytes
held_view contents h = held_by (content_at contents h.key) h

-- the view that is due to an application for the handle that was found
abbrev pub due_by : List (Option Content) → ℕ → Option Handle → Option LentBytes
due_by contents app o = option_and_then (λ h. cond {A = Option LentBytes} (eqb h.app app) (held_view contents h) None) o

-- the handle that a number finds has it
pub known_handle : (handles : List Handle) (n : ℕ) (h : Handle) → handle_at handles n ≡ Some h → h.number ≡ n
known_handle [] n h never = absurd (cc (never))
known_handle (k ∷ handles) n h here = by_test (λ rest. known_handle handles n h rest) (eqb k.number n) refl here
  where
    some_is : Some k ≡ Some h → k ≡ h
    some_is same = ap (λ o. option_map_or (λ w. w) o k) same

    is_same : eqb k.number n ≡ true → k.number ≡ n
    is_same same = grind (arith, nat_tests)

    by_test : (handle_at handles n ≡ Some h → h.number ≡ n) → (b : Bool) → eqb k.number n ≡ b → cond {A = Option Handle} b (Some k) (handle_at handles n) ≡ Some h → h.number ≡ n
    by_test ih true same it = sym (ap (λ (w : Handle). w.number) (some_is it)) ∙ is_same same
    by_test ih false other rest = ih rest

-- what the core's value says is due
pub due_here : (a : Inside) (app n : ℕ) → view_due (plain_of a) app n ≡ due_by a.blocks.tables app (handle_at a.registry.handles n)
due_here a app n =
    ap (λ o. option_and_then (λ (h : state.Handle). cond {A = Option LentBytes} (eqb h.app app) (view_of (plain_of a).lent h) None) o) (handle_here a n)
    ∙ by_found (handle_at a.registry.handles n) refl
  where
    by_held : (h : Handle) (loan : ℕ) (o : Option ℕ) → loan ≡ option_map_or (λ v. (version_at (content_at a.blocks.tables h.key) v).loan) o 0 →
        option_map (λ (hold : state.Hold). let view : LentBytes = record { loan = loan; bytes = hold.value } in view) (option_map (hold_of (content_at a.blocks.tables h.key)) o)
        ≡ option_map (λ v. let view : LentBytes = record { loan = (version_at (content_at a.blocks.tables h.key) v).loan; bytes = (version_at (content_at a.blocks.tables h.key) v).bytes } in view) o
    by_held h loan None is = refl
    by_held h loan (Some v) is = ap (λ l. let view : LentBytes = record { loan = l; bytes = (version_at (content_at a.blocks.tables h.key) v).bytes } in Some view) is

    by_found : (o : Option Handle) → handle_at a.registry.handles n ≡ o →
        option_and_then (λ (h : state.Handle). cond {A = Option LentBytes} (eqb h.app app) (view_of (plain_of a).lent h) None) (option_map (handle_in a.blocks.tables) o) ≡ due_by a.blocks.tables app o
    by_found None at = refl
    by_found (Some h) at =
        ap (λ v. cond {A = Option LentBytes} (eqb h.app app) v None)
        (by_held h (loan_of (plain_of a).lent h.number) h.held
        (ap (λ o. option_map_or (λ (one : Lent). one.loan) o 0) (find-map (λ (one : Lent). eqb one.handle h.number) (lent_in a.blocks.tables) a.registry.handles)
        ∙ ap (λ o. option_map_or (λ (one : Lent). one.loan) (option_map (lent_in a.blocks.tables) o) 0) (ap (handle_at a.registry.handles) (known_handle a.registry.handles n h at) ∙ at)))

abbrev pub is_due : ℕ → Handle → Bool
is_due app h = eqb h.app app && is_some h.held

pub dues_here : (a : Inside) (app : ℕ) → views_due (plain_of a) app ≡ count_by (is_due app) a.registry.handles
dues_here a app =
    count_by-map (λ (h : state.Handle). eqb h.app app && is_some h.hold) (handle_in a.blocks.tables) a.registry.handles
    ∙ count_alike (λ (h : Handle). eqb h.app app && is_some (handle_in a.blocks.tables h).hold) (is_due app) a.registry.handles
    (λ k d within. let h = get_or a.registry.handles k d in ap (λ b. eqb h.app app && b) (by_held (content_at a.blocks.tables h.key) h.held))
  where
    by_held : (c : Content) (o : Option ℕ) → is_some (option_map (hold_of c) o) ≡ is_some o
    by_held c None = refl
    by_held c (Some v) = refl

-- Bags that stay. --

pub bags_go_on : (a b : Inside) (other : ℕ) (bag : HeldViews) → limits_of b.config ≡ limits_of a.config →
    ((n : ℕ) → due_by b.blocks.tables other (handle_at b.registry.handles n) ≡ due_by a.blocks.tables other (handle_at a.registry.handles n)) →
    count_by (is_due other) b.registry.handles ≡ count_by (is_due other) a.registry.handles → Holds (plain_of a) other bag → Holds (plain_of b) other bag
bags_go_on a b other bag limits due count holds = record {
  seen = λ n. holds.seen n ∙ due_here a other n ∙ sym (due_here b other n ∙ due n);
  counted = holds.counted ∙ dues_here a other ∙ sym (dues_here b other ∙ count);
  room = omega (arith, holds.room, ap (λ (l : Limits). l.handles) limits);
}

-- what is due for a handle that was found goes by the view of it
due_alike : (a : Inside) (contents : List (Option Content)) (other : ℕ) → All (λ (h : Handle). held_view contents h ≡ held_view a.blocks.tables h) a.registry.handles → (n : ℕ) →
    due_by contents other (handle_at a.registry.handles n) ≡ due_by a.blocks.tables other (handle_at a.registry.handles n)
due_alike a contents other same n = by_found (handle_at a.registry.handles n) refl
  where
    by_found : (o : Option Handle) → handle_at a.registry.handles n ≡ o → due_by contents other o ≡ due_by a.blocks.tables other o
    by_found None at = refl
    by_found (Some h) at =
        ap (λ v. cond {A = Option LentBytes} (eqb h.app other) v None)
        (found_all (λ (k : Handle). held_view contents k ≡ held_view a.blocks.tables k) (λ k. eqb k.number n) a.registry.handles h same at)

-- if contents change, and what handles hold of them doesn't
pub bags_still : (a : Inside) (b : Stored) → All (λ (h : Handle). held_view b.tables h ≡ held_view a.blocks.tables h) a.registry.handles → (other : ℕ) (bag : HeldViews) →
    Holds (plain_of a) other bag → Holds (plain_of (record a { blocks = b })) other bag
bags_still a b same other bag = bags_go_on a (record a { blocks = b }) other bag refl (due_alike a b.tables other same) refl

-- and if a handle more holds nothing
pub bags_grown : (a b : Inside) (one : Handle) → one.held ≡ None → limits_of b.config ≡ limits_of a.config → b.registry.handles ≡ a.registry.handles ++ one ∷ [] →
    All (λ (h : Handle). held_view b.blocks.tables h ≡ held_view a.blocks.tables h) a.registry.handles → (other : ℕ) (bag : HeldViews) → Holds (plain_of a) other bag → Holds (plain_of b) other bag
bags_grown a b one none limits grown same other bag = bags_go_on a b other bag limits due count
  where
    holds_nothing : due_by b.blocks.tables other (Some one) ≡ None
    holds_nothing =
        ap (λ o. cond {A = Option LentBytes} (eqb one.app other) (option_map (λ v. let view : LentBytes = record { loan = (version_at (content_at b.blocks.tables one.key) v).loan; bytes = (version_at (content_at b.blocks.tables one.key) v).bytes } in view) o) None) none
        ∙ by_app (eqb one.app other)
      where
        by_app : (x : Bool) → cond {A = Option LentBytes} x None None ≡ None
        by_app true = refl
        by_app false = refl

    by_last : (x : Bool) → due_by b.blocks.tables other (cond {A = Option Handle} x (Some one) None) ≡ None
    by_last true = holds_nothing
    by_last false = refl

    by_found : (n : ℕ) (o : Option Handle) → due_by b.blocks.tables other (option_or o (handle_at (one ∷ []) n)) ≡ due_by b.blocks.tables other o
    by_found n None = by_last (eqb one.number n)
    by_found n (Some h) = refl

    due : (n : ℕ) → due_by b.blocks.tables other (handle_at b.registry.handles n) ≡ due_by a.blocks.tables other (handle_at a.registry.handles n)
    due n =
        ap (λ hs. due_by b.blocks.tables other (handle_at hs n)) grown
        ∙ ap (due_by b.blocks.tables other) (find-append (λ (k : Handle). eqb k.number n) a.registry.handles (one ∷ []))
        ∙ by_found n (handle_at a.registry.handles n)
        ∙ due_alike a b.blocks.tables other same n

    not_due : (x : Bool) (o : Option ℕ) → o ≡ None → cond {A = ℕ} (x && is_some o) 1 0 ≡ 0
    not_due true None is = refl
    not_due false None is = refl
    not_due x (Some v) never = absurd (cc (never))

    count : count_by (is_due other) b.registry.handles ≡ count_by (is_due other) a.registry.handles
    count =
        ap (count_by (is_due other)) grown
        ∙ omega (arith, sum_by_push (λ (k : Handle). cond {A = ℕ} (is_due other k) 1 0) a.registry.handles one, not_due (eqb one.app other) one.held none)
