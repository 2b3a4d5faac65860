-- Words and numbers with blanks between them, as the lines of a report have them.
use Rattle.std.proofs.Common.{◌≡◌, ℕ, suc, ◌+◌, ◌*◌, ◌<◌, ◌^◌, nat_lt, true, List, [], ◌∷◌, ◌++◌, get_or, decimal, refl, sym, ◌∙◌, arith, append_assoc}
use Rattle.std.specs.List.{list_all}
use Rattle.std.proofs.lemmas.Bool.{leb-true}
use Rattle.text_page.specs.Texts.{name_text}
use Rattle.run_report.specs.ReadBack.{is_visible}
use Rattle.run_report.proofs.Splits.{above, above-from_within, split_once, split_thrice, decimal_above}

pub short : (n : ℕ) → nat_lt n (2 ^ 32) ≡ true → n < 2 ^ 64
short n holds = let below : n < 2 ^ 32 = leb-true (suc n) (2 ^ 32) holds in omega arith

-- two texts that begin with a number and a blank
pub same_fronts : (m n : ℕ) (x y : List ℕ) → decimal m ++ 32 ∷ x ≡ decimal n ++ 32 ∷ y → (decimal m ≡ decimal n) × (x ≡ y)
same_fronts m n x y same = split_once 33 32 (decimal m) (decimal n) x y (omega arith) (decimal_above 33 m (omega arith)) (decimal_above 33 n (omega arith)) same

pub name_word : (name : List ℕ) → list_all is_visible name ≡ true → above 33 (name_text name) ≡ true
name_word [] plain = refl
name_word (x ∷ xs) plain = above-from_within 33 126 33 (omega arith) (x ∷ xs) plain

pub word : (n : ℕ) → above 33 (decimal n) ≡ true
word n = decimal_above 33 n (omega arith)

-- a word, and a number, with a blank behind it
pub behind_word : (u v x y : List ℕ) → above 33 u ≡ true → above 33 v ≡ true → u ++ 32 ∷ x ≡ v ++ 32 ∷ y → x ≡ y
behind_word u v x y one other e = (split_once 33 32 u v x y (omega arith) one other e).1

pub behind_number : (m n : ℕ) (x y : List ℕ) → decimal m ++ 32 ∷ x ≡ decimal n ++ 32 ∷ y → x ≡ y
behind_number m n x y e = behind_word (decimal m) (decimal n) x y (word m) (word n) e

-- four words, with blanks between and behind them
pub split_four : (a b u v w z s t x y : List ℕ) → above 33 a ≡ true → above 33 b ≡ true → above 33 u ≡ true → above 33 v ≡ true → above 33 w ≡ true → above 33 z ≡ true →
    above 33 s ≡ true → above 33 t ≡ true →
    (((((a ++ 32 ∷ []) ++ u) ++ 32 ∷ []) ++ w) ++ 32 ∷ []) ++ s ++ 32 ∷ x ≡ (((((b ++ 32 ∷ []) ++ v) ++ 32 ∷ []) ++ z) ++ 32 ∷ []) ++ t ++ 32 ∷ y → x ≡ y
split_four a b u v w z s t x y number other one two three four five six same =
    let rest : a ++ 32 ∷ ((u ++ 32 ∷ []) ++ w ++ 32 ∷ [] ++ s ++ 32 ∷ x) ≡ b ++ 32 ∷ ((v ++ 32 ∷ []) ++ z ++ 32 ∷ [] ++ t ++ 32 ∷ y) =
    regroup a u w s x ∙ same ∙ sym (regroup b v z t y) in
    split_thrice u v w z s t x y one two three four five six (behind_word a b _ _ number other rest)
  where
    regroup : (a u w s x : List ℕ) → a ++ 32 ∷ ((u ++ 32 ∷ []) ++ w ++ 32 ∷ [] ++ s ++ 32 ∷ x) ≡ (((((a ++ 32 ∷ []) ++ u) ++ 32 ∷ []) ++ w) ++ 32 ∷ []) ++ s ++ 32 ∷ x
    regroup a u w s x = simp append_assoc

-- the first three bytes of a text, as a number that tells most words for calls apart
abbrev pub beginning : List ℕ → ℕ
beginning text = get_or text 0 0 + 128 * get_or text 1 0 + 16384 * get_or text 2 0

-- and its fourth and fifth byte, which tell apart those that begin alike
abbrev pub fourth : List ℕ → ℕ
fourth text = get_or text 3 0 + 128 * get_or text 4 0

-- a line and what is behind it, word by word
pub line_parts : (u v w z x : List ℕ) →
    ((((((u ++ 32 ∷ 97 ∷ []) ++ v) ++ 32 ∷ []) ++ w) ++ 32 ∷ 45 ∷ 62 ∷ 32 ∷ []) ++ z) ++ 10 ∷ [] ++ x
    ≡ u ++ 32 ∷ 97 ∷ (v ++ 32 ∷ (w ++ 32 ∷ 45 ∷ 62 ∷ 32 ∷ (z ++ 10 ∷ x)))
line_parts u v w z x = simp append_assoc
