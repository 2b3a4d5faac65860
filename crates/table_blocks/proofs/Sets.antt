-- Lists with one place set, and tables with one of them changed.
use Rattle.std.proofs.Common.{◌≡◌, ◌≢◌, ℕ, ◌+◌, ◌<◌, ◌≤◌, ◌⊎◌, inl, inr, zero, suc, Bool, true, false, cond, eqb, List, [], ◌∷◌, length, set, refl, ap, sym, ◌∙◌, arith, Option, Some, None}
use Rattle.std.specs.Option.{option_map_or, is_some}
use Rattle.std.proofs.lemmas.Bool.{cases_eq, cases_lt}
use Rattle.std.proofs.lemmas.Bool.Decides.{nat_tests}
use Rattle.std.proofs.lemmas.List.{get_or_past, get_or-set_same, get_or-set_other, set-get_or, set_comm}
use Rattle.table_blocks.specs.Contents.{Content, kept_at, is_open, content_at, no_content, is_double, version_at, with_value, older_in, beside, lent}
use Rattle.table_blocks.specs.declared.next.Next.TheVariants.{Nothing, Inactive}

-- a place set twice has the later value
pub set_set : {X : Type 0} (xs : List X) (i : ℕ) (x y : X) → set (set xs i x) i y ≡ set xs i y
set_set [] i x y = refl
set_set (z ∷ xs) zero x y = refl
set_set (z ∷ xs) (suc i) x y = ap (λ l. z ∷ l) (set_set xs i x y)

off : false ≡ true → ⊥
off e = cc

-- a table that is there is there
pub open_within : (tables : List (Option Content)) (key : ℕ) → is_open tables key ≡ true → key < length tables
open_within tables key e = at (cases_lt key (length tables))
  where
    at : (key < length tables) ⊎ (length tables ≤ key) → key < length tables
    at (inl h) = h
    at (inr h) = absurd (off (sym (ap is_some (get_or_past tables key None h)) ∙ e))

-- what is kept for an there table is its content
pub kept_content : (tables : List (Option Content)) (key : ℕ) → is_open tables key ≡ true → kept_at tables key ≡ Some (content_at tables key)
kept_content tables key e = at (kept_at tables key) e
  where
    at : (o : Option Content) → is_some o ≡ true → o ≡ Some (option_map_or (λ c. c) o no_content)
    at None e = absurd (off e)
    at (Some c) e = refl

-- a table that is put under a key is found there
pub content_set : (tables : List (Option Content)) (key : ℕ) (c : Content) → key < length tables → content_at (set tables key (Some c)) key ≡ c
content_set tables key c h = ap (λ o. option_map_or (λ c. c) o no_content) (get_or-set_same tables key (Some c) None h)

-- a table that was taken out is put back, and is told by a part of what is put
pub put_back : (tables new : List (Option Content)) (key : ℕ) (t : Content) (part : Content → ℕ) (told : ℕ → Content) → key < length tables → new ≡ set (set tables key None) key (Some t) → t ≡ told (part t) → new ≡ set tables key (Some (told (part (content_at new key))))
put_back tables new key t part told h e is =
    let put : new ≡ set tables key (Some t) = e ∙ set_set tables key None (Some t) in
    let found : content_at new key ≡ t = ap (λ l. content_at l key) put ∙ content_set tables key t h in
    put ∙ ap (λ c. set tables key (Some c)) (is ∙ ap (λ c. told (part c)) (sym found))

-- a table that was taken out is put back as it was
pub one_back : (tables : List (Option Content)) (key : ℕ) → is_open tables key ≡ true → set (set tables key None) key (Some (content_at tables key)) ≡ tables
one_back tables key e = set_set tables key None (Some (content_at tables key)) ∙ ap (set tables key) (sym (kept_content tables key e)) ∙ set-get_or tables key None

-- and so are two
pub two_back : (tables : List (Option Content)) (key other : ℕ) → key ≢ other → is_open tables key ≡ true → is_open tables other ≡ true →
    set (set (set (set tables key None) other None) other (Some (content_at tables other))) key (Some (content_at tables key)) ≡ tables
two_back tables key other apart e its =
    let x = Some (content_at tables key) in
    let y = Some (content_at tables other) in
    ap (λ l. set l key x) (set_set (set tables key None) other None y)
    ∙ set_comm (set tables key None) other key y x (λ same. apart (sym same))
    ∙ ap (λ l. set l other y) (one_back tables key e)
    ∙ ap (set tables other) (sym (kept_content tables other its))
    ∙ set-get_or tables other None

-- another one is there meanwhile
pub still_kept : (tables : List (Option Content)) (key other : ℕ) → key ≢ other → kept_at (set tables key None) other ≡ kept_at tables other
still_kept tables key other apart = get_or-set_other tables key other None None (λ e. apart (sym e))

is_same : (a b : ℕ) → a ≡ b → eqb a b ≡ true
is_same a b e = grind (arith, nat_tests)

is_other : (a b : ℕ) → (a ≡ b → ⊥) → eqb a b ≡ false
is_other a b apart = at (eqb a b) refl
  where
    at : (t : Bool) → eqb a b ≡ t → t ≡ false
    at false e = refl
    at true e = absurd (apart (grind (arith, nat_tests)))

-- a change of one table leaves each other one
pub kept_set : (tables : List (Option Content)) (key other : ℕ) (kept : Option Content) → key < length tables → kept_at (set tables key kept) other ≡ cond (eqb key other) kept (kept_at tables other)
kept_set tables key other kept h = at (cases_eq key other)
  where
    at : (key ≡ other) ⊎ (key ≢ other) → kept_at (set tables key kept) other ≡ cond (eqb key other) kept (kept_at tables other)
    at (inl same) = ap (kept_at (set tables key kept)) (sym same) ∙ (get_or-set_same tables key kept None h ∙ sym (ap (λ b. cond b kept (kept_at tables other)) (is_same key other same)))
    at (inr apart) = get_or-set_other tables key other kept None (λ e. apart (sym e)) ∙ sym (ap (λ b. cond b kept (kept_at tables other)) (is_other key other apart))

-- an update leaves the version before under its number
pub version_before : (c : Content) (loan : ℕ) (value : List ℕ) → is_double c ≡ true → version_at (with_value c loan value) c.version ≡ c.present
version_before c loan value d =
    ap (λ b. cond b (lent loan value c.present.whole) (older_in (beside c c.present))) (later c.version) ∙ ap (λ b. older_in (cond b (Inactive c.present) Nothing)) d
  where
    later : (n : ℕ) → eqb n (n + 1) ≡ false
    later n = grind (arith, nat_tests)
