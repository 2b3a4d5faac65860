-- Handles that leave one after another, and the tables that stay.
use Rattle.std.proofs.Common.{◌≡◌, ℕ, ◌==◌, ◌||◌, not, Bool, true, false, cond, true≢false, List, [], ◌∷◌, map, filter, None, refl, ap, sym, ◌∙◌}
use Rattle.std.specs.List.{list_any}
use Rattle.tbl_words.specs.Tables.{Table, Handle, is_live, has_handle}
use Rattle.tbl_words.specs.Machine.{after_leave}
use Rattle.tbl_words.specs.Leaves.{LeavesAddUp}

-- what is in no item is in none of those that a filter leaves
any-left : {X : Type 0} (test keeps : X → Bool) (xs : List X) → list_any test xs ≡ false → list_any test (filter keeps xs) ≡ false
any-left test keeps [] none = refl
any-left {X} test keeps (x ∷ xs) none = by_head (test x) (keeps x) refl none (λ others. any-left test keeps xs others)
  where
    by_head : (b k : Bool) → test x ≡ b → (b || list_any test xs) ≡ false →
        (list_any test xs ≡ false → list_any test (filter keeps xs) ≡ false) →
        list_any test (cond {A = List X} k (x ∷ filter keeps xs) (filter keeps xs)) ≡ false
    by_head true k is all rest = absurd (true≢false all)
    by_head false true is all rest = ap (λ b. b || list_any test (filter keeps xs)) is ∙ rest all
    by_head false false is all rest = rest all

-- two filters one behind the other
filters : {X : Type 0} (first second : X → Bool) (xs : List X) →
    filter (λ x. not (second x)) (filter (λ x. not (first x)) xs) ≡ filter (λ x. not (first x || second x)) xs
filters first second [] = refl
filters {X} first second (x ∷ xs) = by_head (first x) (filters first second xs)
  where
    left : List X
    left = filter (λ y. not (first y)) xs

    all : List X
    all = filter (λ y. not (first y || second y)) xs

    by_head : (b : Bool) → filter (λ y. not (second y)) left ≡ all →
        filter (λ y. not (second y)) (cond {A = List X} (not b) (x ∷ left) left) ≡ cond {A = List X} (not (b || second x)) (x ∷ all) all
    by_head true others = others
    by_head false others = ap (λ rest. cond {A = List X} (not (second x)) (x ∷ rest) rest) others

-- the tables that stay with these handles
abbrev stay : List Handle → List Table → List Table
stay left tables = filter (λ t. has_handle left t.number) (map (after_leave left) tables)

-- a table once its owner's handle has left
abbrev abandoned : Table → Table
abandoned t = record t { registered = false; staged = None }

after_leave-number : (left : List Handle) (t : Table) → (after_leave left t).number ≡ t.number
after_leave-number left t =
    elim (is_live left t.number) as (λ b. (cond {A = Table} b t (abandoned t)).number ≡ t.number) [ true ↦ refl | false ↦ refl ]

-- a table that is asked twice, of fewer handles the second time
after_leave-twice : (left fewer : List Handle) (t : Table) → (is_live left t.number ≡ false → is_live fewer t.number ≡ false) →
    after_leave fewer (after_leave left t) ≡ after_leave fewer t
after_leave-twice left fewer t less =
    elim (is_live left t.number) as (λ b. is_live left t.number ≡ b → after_leave fewer (cond {A = Table} b t (abandoned t)) ≡ after_leave fewer t) [
      | true ↦ λ is. refl
      | false ↦ λ is.
          ap (λ b. cond {A = Table} b (abandoned t) (abandoned t)) (less is)
          ∙ sym (ap (λ b. cond {A = Table} b t (abandoned t)) (less is))
    ] refl

-- so the tables that stay with the fewer are those that stay with them at once
stay-twice : (left fewer : List Handle) →
    ((number : ℕ) → is_live left number ≡ false → is_live fewer number ≡ false) →
    ((number : ℕ) → has_handle left number ≡ false → has_handle fewer number ≡ false) →
    (tables : List Table) → stay fewer (stay left tables) ≡ stay fewer tables
stay-twice left fewer live has [] = refl
stay-twice left fewer live has (t ∷ tables) =
    ap (λ n. stay fewer (cond {A = List Table} (has_handle left n) (after_leave left t ∷ stay left tables) (stay left tables))) (after_leave-number left t)
    ∙ by_has (has_handle left t.number) refl (stay-twice left fewer live has tables)
  where
    by_has : (b : Bool) → has_handle left t.number ≡ b → stay fewer (stay left tables) ≡ stay fewer tables →
        stay fewer (cond {A = List Table} b (after_leave left t ∷ stay left tables) (stay left tables)) ≡ stay fewer (t ∷ tables)
    by_has true is rest =
        ap (λ (u : Table). cond {A = List Table} (has_handle fewer u.number) (u ∷ stay fewer (stay left tables)) (stay fewer (stay left tables)))
        (after_leave-twice left fewer t (live t.number))
        ∙ ap (λ others. cond {A = List Table} (has_handle fewer (after_leave fewer t).number) (after_leave fewer t ∷ others) others) rest
    by_has false is rest =
        rest
        ∙ sym (ap (λ b. cond {A = List Table} b (after_leave fewer t ∷ stay fewer tables) (stay fewer tables))
        (ap (has_handle fewer) (after_leave-number fewer t) ∙ has t.number is))

-- handles that leave one after another leave as at once
pub leaves_add_up : LeavesAddUp
leaves_add_up s first second =
    let left = filter (λ h. not (first h)) s.handles in
    let fewer = filter (λ h. not (second h)) left in
    ap (λ tables. record s { handles = fewer; tables = tables })
    (stay-twice left fewer
    (λ number. any-left (λ h. h.number == number) (λ h. not (second h)) left)
    (λ number. any-left (λ h. h.table == number) (λ h. not (second h)) left)
    s.tables)
    ∙ ap (λ handles. record s { handles = handles; tables = stay handles s.tables }) (filters first second s.handles)
