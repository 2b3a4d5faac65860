-- Texts that begin with others, and the heads of lines.
use Rattle.std.proofs.Common.{◌≡◌, ℕ, ◌+◌, ◌<◌, ◌≤◌, ◌^◌, nat_le, true, ◌⊎◌, inl, inr, List, [], ◌∷◌, ◌++◌, length, codes, decimal, refl, ap, sym, ◌∙◌, arith, append_assoc, append-nil}
use Rattle.std.proofs.lemmas.Bool.{leb-true}
use Rattle.std.proofs.lemmas.Fmt.{decimal_injective}
use Rattle.std.proofs.lemmas.List.{append_cancel_left}
use Rattle.text_page.specs.Texts.{numbered}
use Rattle.run_report.proofs.Splits.{above, above-append, and_first, and_second, decimal_above, split_once}
use Rattle.run_report.proofs.Words.{word}
use Rattle.run_check.specs.Fronts.{EndsLine}
use Rattle.run_check.specs.Judged.{Begins, entry_head}

-- Fronts. --

-- of two fronts of a text one begins with the other
pub two_fronts : (a b c d : List ℕ) → a ++ b ≡ c ++ d → (Begins a c) ⊎ (Begins c a)
two_fronts a b [] d same = inl (a, refl)
two_fronts [] b (y ∷ c) d same = inr (y ∷ c, refl)
two_fronts (x ∷ a) b (y ∷ c) d same =
    let first : x ≡ y = cc same in
    let rest : a ++ b ≡ c ++ d = cc same in
    more first (two_fronts a b c d rest)
  where
    more : x ≡ y → (Begins a c) ⊎ (Begins c a) → (Begins (x ∷ a) (y ∷ c)) ⊎ (Begins (y ∷ c) (x ∷ a))
    more first (inl found) = inl (found.0, ap (λ h. h ∷ a) first ∙ ap (λ l. y ∷ l) found.1)
    more first (inr found) = inr (found.0, ap (λ h. h ∷ c) (sym first) ∙ ap (λ l. x ∷ l) found.1)

-- what has some byte and ends a text that ends a line does so too
pub ends_behind : (done : List ℕ) (x : ℕ) (f : List ℕ) → EndsLine (done ++ x ∷ f) → EndsLine (x ∷ f)
ends_behind [] x f ends = ends
ends_behind (y ∷ done) x f ends = by ends.0 ends.1 (ends_behind done x f)
  where
    none : (d : List ℕ) → d ++ x ∷ f ≡ [] → ⊥
    none [] nothing = cc nothing
    none (z ∷ d) nothing = cc nothing

    by : (line : List ℕ) → y ∷ (done ++ x ∷ f) ≡ line ++ 10 ∷ [] → (EndsLine (done ++ x ∷ f) → EndsLine (x ∷ f)) → EndsLine (x ∷ f)
    by [] same more = absurd (none done (cc same))
    by (l ∷ line) same more = more (line, cc same)

pub none_ends : (others : List ℕ) → (line : List ℕ) → (line ++ 10 ∷ []) ++ others ≡ [] → ⊥
none_ends others [] same = cc same
none_ends others (x ∷ line) same = cc same

-- Heads. --

head_parts : (d a x : List ℕ) → (((d ++ 32 ∷ 97 ∷ []) ++ a) ++ 32 ∷ []) ++ x ≡ d ++ 32 ∷ 97 ∷ (a ++ 32 ∷ x)
head_parts d a x = simp append_assoc

-- a text begins with the head of one application's line alone
pub same_heads : (n a b : ℕ) (text : List ℕ) → a < 2 ^ 32 → b < 2 ^ 32 → Begins text (entry_head n a) → Begins text (entry_head n b) → a ≡ b
same_heads n a b text one other first second =
    let same = sym (head_parts (decimal n) (decimal a) first.0) ∙ sym first.1 ∙ second.1 ∙ head_parts (decimal n) (decimal b) second.0 in
    let behind = append_cancel_left (decimal n) _ _ same in
    let apps = split_once 33 32 (decimal a) (decimal b) first.0 second.0 (omega arith) (word a) (word b) (cc behind) in
    decimal_injective a b (omega (arith, one)) (omega (arith, other)) apps.0

-- no line ends within a head
head_above : (n a : ℕ) → above 11 (entry_head n a) ≡ true
head_above n a =
    above-append 11 (decimal n ++ codes " a" ++ decimal a) (codes " ")
    (above-append 11 (decimal n ++ codes " a") (decimal a) (above-append 11 (decimal n) (codes " a") (decimal_above 11 n (omega arith)) refl) (decimal_above 11 a (omega arith)))
    refl

line_head : (h l others w : List ℕ) → above 11 h ≡ true → l ++ 10 ∷ others ≡ h ++ w → Begins l h
line_head [] l others w high same = (l, refl)
line_head (c ∷ h) [] others w high same =
    let first : 10 ≡ c = cc same in
    let least : 11 ≤ c = leb-true 11 c (and_first (nat_le 11 c) (above 11 h) high) in
    absurd (omega (arith, first, least))
line_head (c ∷ h) (x ∷ l) others w high same =
    let first : x ≡ c = cc same in
    let rest : l ++ 10 ∷ others ≡ h ++ w = cc same in
    let found = line_head h l others w (and_second (nat_le 11 c) (above 11 h) high) rest in
    (found.0, ap (λ b. b ∷ l) first ∙ ap (λ t. c ∷ t) found.1)

-- if a line ends in a text that begins with a head, the line begins with it
pub line_begins : (n a : ℕ) (front others w : List ℕ) → EndsLine front → front ++ others ≡ entry_head n a ++ w → Begins front (entry_head n a)
line_begins n a front others w ends same =
    let line : ends.0 ++ 10 ∷ others ≡ entry_head n a ++ w = sym (append_assoc ends.0 (10 ∷ []) others) ∙ ap (λ f. f ++ others) (sym ends.1) ∙ same in
    let found = line_head (entry_head n a) ends.0 others w (head_above n a) line in
    (found.0 ++ 10 ∷ [], ends.1 ∙ ap (λ l. l ++ 10 ∷ []) found.1 ∙ append_assoc (entry_head n a) found.0 (10 ∷ []))

-- Numbered texts. --

-- the text of one member more
pub numbered_push : {X : Type 0} (text : ℕ → X → List ℕ) (n : ℕ) (xs : List X) (x : X) → numbered text n (xs ++ x ∷ []) ≡ numbered text n xs ++ text (n + length xs) x
numbered_push text n [] x = append-nil (text n x) ∙ ap (λ m. text m x) (omega arith)
numbered_push text n (y ∷ xs) x =
    ap (λ t. text n y ++ t) (numbered_push text (n + 1) xs x)
    ∙ sym (append_assoc (text n y) (numbered text (n + 1) xs) (text (n + 1 + length xs) x))
    ∙ ap (λ m. (text n y ++ numbered text (n + 1) xs) ++ text m x) (omega arith)
