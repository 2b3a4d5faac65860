-- The first lines of texts, and what two texts have in common.
use Rattle.std.proofs.Common.{◌≡◌, ℕ, zero, suc, ◌+◌, ◌≤◌, ◌==◌, Bool, true, false, cond, eqb-true, List, [], ◌∷◌, ◌++◌, Option, Some, None, if◌then◌else◌, refl, ap, sym, ◌∙◌, subst, arith}
use Rattle.std.specs.Option.{option_map}
use Rattle.std.proofs.lemmas.Bool.Decides.{nat_tests}
use Rattle.std.proofs.lemmas.List.Sums.{sum_by-append, sum_by-cons}
use Rattle.run_check.specs.Fronts.{alike, line_ends, EndsLine}
use Rattle.run_check.specs.Openings.{first_lines}

-- First lines. --

-- 1 if a byte ends a line
abbrev pub ends_one : ℕ → ℕ
ends_one byte = cond (byte == 10) 1 0

pub line_ends-cons : (byte : ℕ) (text : List ℕ) → line_ends (byte ∷ text) ≡ ends_one byte + line_ends text
line_ends-cons byte text = sum_by-cons ends_one byte text

pub line_ends-append : (one other : List ℕ) → line_ends (one ++ other) ≡ line_ends one + line_ends other
line_ends-append one other = sum_by-append ends_one one other

-- what the first lines of a text are: so many lines, with which the text begins, the last of them ended
pub record AreLines (n : ℕ) (text front : List ℕ) : Type 0 where
  pub rest : List ℕ
  pub whole : text ≡ front ++ rest
  pub count : line_ends front ≡ n
  pub none : n ≡ zero → front ≡ []
  pub ends : (m : ℕ) → n ≡ suc m → EndsLine front

-- so many lines less if a byte ends one
abbrev behind : Bool → ℕ → ℕ
behind b n = if b then n else suc n

-- a byte before lines
last_ends : (n byte : ℕ) (line : List ℕ) → byte ≡ 10 → (n ≡ zero → line ≡ []) → ((m : ℕ) → n ≡ suc m → EndsLine line) → EndsLine (byte ∷ line)
last_ends zero byte line end none ends = ([], ap (λ b. b ∷ line) end ∙ ap (λ l. 10 ∷ l) (none refl))
last_ends (suc n) byte line end none ends = let before = ends n refl in (byte ∷ before.0, ap (λ l. byte ∷ l) before.1)

byte_more : (n byte : ℕ) (text line : List ℕ) (b : Bool) → (byte == 10) ≡ b → AreLines (behind b n) text line → AreLines (suc n) (byte ∷ text) (byte ∷ line)
byte_more n byte text line true is lines = record {
  rest = lines.rest;
  whole = ap (λ l. byte ∷ l) lines.whole;
  count = omega (arith, line_ends-cons byte line, ap (λ (b : Bool). cond {A = ℕ} b 1 0) is, lines.count);
  none = λ zeros. absurd (cc zeros);
  ends = λ m same. last_ends n byte line (eqb-true byte 10 is) lines.none lines.ends;
}
byte_more n byte text line false is lines = record {
  rest = lines.rest;
  whole = ap (λ l. byte ∷ l) lines.whole;
  count = omega (arith, line_ends-cons byte line, ap (λ (b : Bool). cond {A = ℕ} b 1 0) is, lines.count);
  none = λ zeros. absurd (cc zeros);
  ends = λ m same. let before = lines.ends n refl in (byte ∷ before.0, ap (λ l. byte ∷ l) before.1);
}

pub are_lines : (n : ℕ) (text front : List ℕ) → first_lines n text ≡ Some front → AreLines n text front
are_lines zero text front read =
    let same : front ≡ [] = sym (some_same read) in
    record {
      rest = text;
      whole = ap (λ l. l ++ text) (sym same);
      count = ap line_ends same;
      none = λ zeros. same;
      ends = λ m some. absurd (cc some);
    }
  where
    some_same : {a b : List ℕ} → Some a ≡ Some b → a ≡ b
    some_same e = cc e
are_lines (suc n) [] front read = absurd (cc read)
are_lines (suc n) (byte ∷ text) front read =
    by (byte == 10) refl (first_lines (behind (byte == 10) n) text) refl read (λ k line. are_lines k text line)
  where
    by : (b : Bool) → (byte == 10) ≡ b → (o : Option (List ℕ)) → first_lines (behind b n) text ≡ o → option_map (λ line. byte ∷ line) o ≡ Some front →
        ((k : ℕ) (line : List ℕ) → first_lines k text ≡ Some line → AreLines k text line) → AreLines (suc n) (byte ∷ text) front
    by b is None found none lines = absurd (cc none)
    by b is (Some line) found some lines =
        let P : List ℕ → Type 0 = AreLines (suc n) (byte ∷ text) in
        let same : byte ∷ line ≡ front = cc some in
        subst P same (byte_more n byte text line b is (lines (behind b n) line found))

-- a text has the first lines of what it begins with
pub lines_behind : (n : ℕ) (front : List ℕ) → n ≤ line_ends front → (lines : List ℕ) × ((rest : List ℕ) → first_lines n (front ++ rest) ≡ Some lines)
lines_behind zero front few = ([], λ rest. refl)
lines_behind (suc n) [] few = absurd (omega (arith, few))
lines_behind (suc n) (byte ∷ front) few = by (byte == 10) refl (λ k fewer. lines_behind k front fewer)
  where
    ends : (b : Bool) → (byte == 10) ≡ b → ends_one byte ≡ cond {A = ℕ} b 1 0
    ends b is = ap (λ (c : Bool). cond {A = ℕ} c 1 0) is

    from : (b : Bool) → (byte == 10) ≡ b → (found : (lines : List ℕ) × ((rest : List ℕ) → first_lines (behind b n) (front ++ rest) ≡ Some lines)) →
        (lines : List ℕ) × ((rest : List ℕ) → first_lines (suc n) (byte ∷ (front ++ rest)) ≡ Some lines)
    from b is found = (
      byte ∷ found.0,
      λ rest.
          ap (λ c. option_map (λ line. byte ∷ line) (first_lines (behind c n) (front ++ rest))) is
          ∙ ap (λ o. option_map (λ line. byte ∷ line) o) (found.1 rest),
    )

    by : (b : Bool) → (byte == 10) ≡ b → ((k : ℕ) → k ≤ line_ends front → (lines : List ℕ) × ((rest : List ℕ) → first_lines k (front ++ rest) ≡ Some lines)) →
        (lines : List ℕ) × ((rest : List ℕ) → first_lines (suc n) (byte ∷ (front ++ rest)) ≡ Some lines)
    by true is lines = from true is (lines n (omega (arith, few, line_ends-cons byte front, ends true is)))
    by false is lines = from false is (lines (suc n) (omega (arith, few, line_ends-cons byte front, ends false is)))

-- What two texts have in common. --

pub alike_one : (one other : List ℕ) → (rest : List ℕ) × (one ≡ alike one other ++ rest)
alike_one [] other = ([], refl)
alike_one (x ∷ xs) [] = (x ∷ xs, refl)
alike_one (x ∷ xs) (y ∷ ys) = by (x == y) (alike_one xs ys)
  where
    by : (b : Bool) → (rest : List ℕ) × (xs ≡ alike xs ys ++ rest) → (rest : List ℕ) × (x ∷ xs ≡ (if b then x ∷ alike xs ys else []) ++ rest)
    by true found = (found.0, ap (λ l. x ∷ l) found.1)
    by false found = (x ∷ xs, refl)

pub alike_other : (one other : List ℕ) → (rest : List ℕ) × (other ≡ alike one other ++ rest)
alike_other [] other = (other, refl)
alike_other (x ∷ xs) [] = ([], refl)
alike_other (x ∷ xs) (y ∷ ys) = by (x == y) refl (alike_other xs ys)
  where
    by : (b : Bool) → (x == y) ≡ b → (rest : List ℕ) × (ys ≡ alike xs ys ++ rest) → (rest : List ℕ) × (y ∷ ys ≡ (if b then x ∷ alike xs ys else []) ++ rest)
    by true is found = (found.0, ap (λ h. h ∷ ys) (sym (eqb-true x y is)) ∙ ap (λ l. x ∷ l) found.1)
    by false is found = (y ∷ ys, refl)

pub alike_behind : (front one other : List ℕ) → alike (front ++ one) (front ++ other) ≡ front ++ alike one other
alike_behind [] one other = refl
alike_behind (x ∷ front) one other =
    ap (λ (b : Bool). if b then x ∷ alike (front ++ one) (front ++ other) else []) (same x) ∙ ap (λ l. x ∷ l) (alike_behind front one other)
  where
    same : (n : ℕ) → (n == n) ≡ true
    same n = grind (arith, nat_tests)
