-- Texts of lists: what one more member adds.
use Rattle.std.proofs.Common.{◌≡◌, ℕ, suc, ◌+◌, List, [], ◌∷◌, ◌++◌, length, map, take, Some, slice_get, ap, sym, ◌∙◌, arith, append_assoc, append-nil}
use Rattle.std.specs.List.{flat_map}
use Rattle.std.proofs.lemmas.Grind.{flat_map-append}
use Rattle.std.proofs.lemmas.List.{length-map, length-take-le, map_push, take_more}
use Rattle.std.proofs.lemmas.Option.{get_or_from_slice_get, slice_get_within}
use Rattle.text_page.specs.Texts.{numbered}

-- the members of a list before a place and the one there
take_next : {X : Type 0} (xs : List X) (i : ℕ) (x : X) → slice_get xs i ≡ Some x → take (i + 1) xs ≡ take i xs ++ x ∷ []
take_next xs i x there = let inside = slice_get_within xs i x there in take_more xs i x inside ∙ ap (λ y. take i xs ++ y ∷ []) (get_or_from_slice_get xs i x x there)

-- the text of one more member
pub flat_map-next : {X : Type 0} (f : X → List ℕ) (xs : List X) (i : ℕ) (x : X) → slice_get xs i ≡ Some x → flat_map f (take i xs) ++ f x ≡ flat_map f (take (i + 1) xs)
flat_map-next f xs i x there = ap (λ l. flat_map f (take i xs) ++ l) (sym (append-nil (f x))) ∙ sym (flat_map-append f (take i xs) (x ∷ [])) ∙ ap (flat_map f) (sym (take_next xs i x there))

-- the texts of a list behind those of another, whose numbers it goes on with
numbered-append : {X : Type 0} (text : ℕ → X → List ℕ) (n : ℕ) (xs ys : List X) → numbered text n (xs ++ ys) ≡ numbered text n xs ++ numbered text (n + length xs) ys
numbered-append text n [] ys = let same : n + 0 ≡ n = omega arith in ap (λ m. numbered text m ys) (sym same)
numbered-append text n (x ∷ xs) ys =
    let same : n + 1 + length xs ≡ n + suc (length xs) = omega arith in
    ap (λ l. text n x ++ l) (numbered-append text (n + 1) xs ys)
    ∙ sym (append_assoc (text n x) (numbered text (n + 1) xs) (numbered text (n + 1 + length xs) ys))
    ∙ ap (λ m. (text n x ++ numbered text (n + 1) xs) ++ numbered text m ys) same

-- the text of a member behind those of a list, with its number
numbered-push : {X : Type 0} (text : ℕ → X → List ℕ) (xs : List X) (x : X) (m : ℕ) → m ≡ 1 + length xs → numbered text 1 xs ++ text m x ≡ numbered text 1 (xs ++ x ∷ [])
numbered-push text xs x m here =
    ap (λ k. numbered text 1 xs ++ text k x) here
    ∙ ap (λ l. numbered text 1 xs ++ l) (sym (append-nil (text (1 + length xs) x)))
    ∙ sym (numbered-append text 1 xs (x ∷ []))

-- the text of one more member, with its number
pub numbered-next : {X : Type 0} (text : ℕ → X → List ℕ) (xs : List X) (i : ℕ) (x : X) → slice_get xs i ≡ Some x → numbered text 1 (take i xs) ++ text (i + 1) x ≡ numbered text 1 (take (i + 1) xs)
numbered-next text xs i x there =
    let inside = slice_get_within xs i x there in
    numbered-push text (take i xs) x (i + 1) (omega (arith, length-take-le i xs))
    ∙ ap (numbered text 1) (sym (take_next xs i x there))

-- the same, if the text is of something that the member has
pub numbered-map-next : {X Y : Type 0} (text : ℕ → Y → List ℕ) (v : X → Y) (xs : List X) (i : ℕ) (x : X) → slice_get xs i ≡ Some x →
    numbered text 1 (map v (take i xs)) ++ text (i + 1) (v x) ≡ numbered text 1 (map v (take (i + 1) xs))
numbered-map-next text v xs i x there =
    let inside = slice_get_within xs i x there in
    numbered-push text (map v (take i xs)) (v x) (i + 1) (omega (arith, length-map (take i xs) v, length-take-le i xs))
    ∙ ap (numbered text 1) (sym (map_push v (take i xs) x) ∙ ap (map v) (sym (take_next xs i x there)))
