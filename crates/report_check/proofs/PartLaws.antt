-- The parts of an input, line by line.
use Rattle.std.proofs.Common.{◌≡◌, ℕ, suc, ◌+◌, add-one, Bool, true, false, cond, not, List, [], ◌∷◌, ◌++◌, take, drop, Option, Some, None, if◌then◌else◌, ap, sym, ◌∙◌, arith, append_assoc, append-nil, drop-drop, take-add}
use Rattle.std.specs.List.{position_or_len}
use Rattle.script_words.specs.Text.{is_feed}
use Rattle.report_check.specs.Parts.{is_mark, parts_from, parts_in}

abbrev Parts : Type 0
Parts = Option (List ℕ × List ℕ)

-- the parts behind a line, whose rest is so long
abbrev pub after_line : List ℕ → List ℕ → List ℕ → ℕ → Parts
after_line lines line text n =
    if is_mark (line ++ take n text) then Some (lines, drop (suc n) text) else parts_from (lines ++ (line ++ take (suc n) text)) [] (drop (suc n) text)

-- a byte, by whether it ends the line
abbrev by_byte : List ℕ → List ℕ → List ℕ → ℕ → Bool → Parts
by_byte lines line text byte b =
    if b then (if is_mark line then Some (lines, text) else parts_from (lines ++ line ++ byte ∷ []) [] text) else parts_from lines (line ++ byte ∷ []) text

pub part_line : (lines line text : List ℕ) → parts_from lines line text ≡ after_line lines line text (position_or_len is_feed text)
part_line lines line [] = ap (λ (l : List ℕ). if is_mark l then Some (lines, []) else None) (sym (append-nil line))
part_line lines line (byte ∷ text) = by (is_feed byte) (part_line lines (line ++ byte ∷ []) text)
  where
    by : (b : Bool) → parts_from lines (line ++ byte ∷ []) text ≡ after_line lines (line ++ byte ∷ []) text (position_or_len is_feed text) →
        by_byte lines line text byte b ≡ after_line lines line (byte ∷ text) (cond (not b) (1 + position_or_len is_feed text) 0)
    by true more =
        ap (λ (l : List ℕ). if is_mark l then Some (lines, text) else parts_from (lines ++ line ++ byte ∷ []) [] text) (sym (append-nil line))
        ∙ ap (λ (l : List ℕ). if is_mark (line ++ []) then Some (lines, text) else parts_from l [] text) (append_assoc lines line (byte ∷ []))
    by false more =
        let n = position_or_len is_feed text in
        let one : 1 + n ≡ suc n = omega arith in
        more
        ∙ ap (λ (l : List ℕ). if is_mark l then Some (lines, drop (suc n) text) else parts_from (lines ++ ((line ++ byte ∷ []) ++ take (suc n) text)) [] (drop (suc n) text))
        (append_assoc line (byte ∷ []) (take n text))
        ∙ ap (λ (l : List ℕ). if is_mark (line ++ (byte ∷ take n text)) then Some (lines, drop (suc n) text) else parts_from (lines ++ l) [] (drop (suc n) text))
        (append_assoc line (byte ∷ []) (take (suc n) text))
        ∙ ap (after_line lines line (byte ∷ text)) (sym one)

-- a line that stands between two parts, and another one
pub line_found : (input : List ℕ) (start n : ℕ) → parts_in input ≡ parts_from (take start input) [] (drop start input) → n ≡ position_or_len is_feed (drop start input) →
    is_mark (take n (drop start input)) ≡ true → Some (take start input, drop (n + 1) (drop start input)) ≡ parts_in input
line_found input start n is at mark =
    let rest = drop start input in
    sym (is ∙ part_line (take start input) [] rest ∙ ap (after_line (take start input) [] rest) (sym at)
    ∙ ap (λ (b : Bool). if b then Some (take start input, drop (suc n) rest) else parts_from (take start input ++ take (suc n) rest) [] (drop (suc n) rest)) mark
    ∙ ap (λ m. Some (take start input, drop m rest)) (sym (add-one n)))

pub line_passed : (input : List ℕ) (start n : ℕ) → parts_in input ≡ parts_from (take start input) [] (drop start input) → n ≡ position_or_len is_feed (drop start input) →
    is_mark (take n (drop start input)) ≡ false → parts_in input ≡ parts_from (take (start + (n + 1)) input) [] (drop (start + (n + 1)) input)
line_passed input start n is at mark =
    let rest = drop start input in
    is ∙ part_line (take start input) [] rest ∙ ap (after_line (take start input) [] rest) (sym at)
    ∙ ap (λ (b : Bool). if b then Some (take start input, drop (suc n) rest) else parts_from (take start input ++ take (suc n) rest) [] (drop (suc n) rest)) mark
    ∙ ap (λ m. parts_from (take start input ++ take m rest) [] (drop m rest)) (sym (add-one n))
    ∙ ap (λ l. parts_from l [] (drop (n + 1) rest)) (sym (take-add start (n + 1) input))
    ∙ ap (λ l. parts_from (take (start + (n + 1)) input) [] l) (drop-drop (n + 1) start input)
