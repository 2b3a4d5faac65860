-- Texts in pieces: what follows from one piece put after another.
use Rattle.std.proofs.Common.{◌≡◌, ℕ, ◌+◌, ◌-◌, ◌≤◌, Bool, true, false, ◌⊎◌, inl, inr, List, [], ◌++◌, length, take, drop, Option, Some, None, Result, Ok, Err, OnOk, refl, ap, sym, ◌∙◌, subst, arith, append_assoc, append-nil, length-drop}
use Rattle.std.specs.Option.{option_map}
use Rattle.std.proofs.lemmas.List.{take-append-drop}
use Rattle.std.proofs.Math.Seq.{take-add, take-length}
use Rattle.fsw_base.specs.Guards.{GuardedSink}
use Rattle.fsw_base.specs.Outside.{Rose}
use Rattle.text_page.specs.Pieces.{GoesOn, Puts, CutShort}

-- one text behind another
pub grew_then : (a : Option (List ℕ)) {b c : Option (List ℕ)} (s t : List ℕ) → b ≡ option_map (λ before. before ++ s) a → c ≡ option_map (λ before. before ++ t) b → c ≡ option_map (λ before. before ++ (s ++ t)) a
grew_then a s t first second = second ∙ ap (λ o. option_map (λ before. before ++ t) o) first ∙ joined a
  where
    joined : (o : Option (List ℕ)) → option_map (λ before. before ++ t) (option_map (λ before. before ++ s) o) ≡ option_map (λ before. before ++ (s ++ t)) o
    joined None = refl
    joined (Some x) = ap Some (append_assoc x s t)

-- nothing was written
pub grew_nothing : (a : Option (List ℕ)) → a ≡ option_map (λ before. before ++ []) a
grew_nothing None = refl
grew_nothing (Some x) = ap Some (sym (append-nil x))

-- what is behind a place, cut at the end of the list
pub rest_of : (i : ℕ) (xs : List ℕ) → take (length xs - i) (drop i xs) ≡ drop i xs
rest_of i xs = ap (λ n. take n (drop i xs)) (sym (length-drop i xs)) ∙ take-length (drop i xs)

-- a front of a list, and more of it
pub grew_more : (a : Option (List ℕ)) {b c : Option (List ℕ)} (i n : ℕ) (xs : List ℕ) →
    b ≡ option_map (λ before. before ++ take i xs) a → c ≡ option_map (λ before. before ++ take n (take (length xs - i) (drop i xs))) b →
    c ≡ option_map (λ before. before ++ take (i + n) xs) a
grew_more a {b} {c} i n xs first second =
    grew_then a (take i xs) (take n (drop i xs)) first (subst (λ (l : List ℕ). c ≡ option_map (λ before. before ++ take n l) b) (rest_of i xs) second) ∙ ap (λ l. option_map (λ before. before ++ l) a) (sym (take-add i n xs))

-- only a front of the text was written
pub cut_at : (a b : Option (List ℕ)) (i : ℕ) (xs : List ℕ) → b ≡ option_map (λ before. before ++ take i xs) a → CutShort a b xs
cut_at a b i xs grew = record { sent = take i xs; left = drop i xs; whole = sym (take-append-drop i xs); bytes = grew }

-- two facts of an Ok give a third
pub on_ok_both : {T E P Q R : Type 0} (r : Result T E) → (P → Q → R) → OnOk r P → OnOk r Q → OnOk r R
on_ok_both (Ok x) both one other = both one other
on_ok_both (Err e) both one other = tt

-- whether the flag is set
flag : (b : Bool) → (b ≡ true) ⊎ (b ≡ false)
flag true = inl refl
flag false = inr refl

-- no flag is set and clear
not_both : {b : Bool} → b ≡ true → b ≡ false → ⊥
not_both set clear = cc

-- a piece, and nothing more after a failure
goes_stays : {a b c : GuardedSink} {p q r s : List ℕ} (t : List ℕ) → GoesOn a b p q s → b.failed ≡ true → c ≡ b → GoesOn a c p r (s ++ t)
goes_stays {a} {b} {c} {p} {q} {r} {s} t first failed second = record {
  sent = first.sent;
  left = first.left ++ t;
  whole = sym (append_assoc p s t) ∙ ap (λ l. l ++ t) first.whole ∙ append_assoc first.sent first.left t;
  bytes = ap (λ (x : GuardedSink). x.written) second ∙ first.bytes;
  waits = λ clear. absurd (not_both failed (sym (ap (λ (x : GuardedSink). x.failed) second) ∙ clear));
  cause = λ set. subst (λ (x : GuardedSink). Rose a.faults x.faults) (sym second) (first.cause failed);
  never_falls = subst (λ (x : GuardedSink). a.faults ≤ x.faults) (sym second) first.never_falls;
}

-- a piece after another
goes_goes : {a b c : GuardedSink} {p q r s t : List ℕ} → GoesOn a b p q s → b.failed ≡ false → GoesOn b c q r t → GoesOn a c p r (s ++ t)
goes_goes {a} {b} {c} {p} {q} {r} {s} {t} first clear second = record {
  sent = first.sent ++ second.sent;
  left = second.left;
  whole =
      sym (append_assoc p s t) ∙ ap (λ l. l ++ t) (first.whole ∙ ap (λ l. first.sent ++ l) (first.waits clear)) ∙ append_assoc first.sent q t
      ∙ ap (λ l. first.sent ++ l) second.whole ∙ sym (append_assoc first.sent second.sent second.left);
  bytes = grew_then a.written first.sent second.sent first.bytes second.bytes;
  waits = second.waits;
  cause = λ set. let rose = second.cause set in let kept = first.never_falls in omega arith;
  never_falls = let one = first.never_falls in let other = second.never_falls in omega arith;
}

infixl 20 ◌▸◌
pub ◌▸◌ : {a b c : GuardedSink} {p q r s t : List ℕ} → Puts a b p q s → Puts b c q r t → Puts a c p r (s ++ t)
◌▸◌ {a} {b} {c} {p} {q} {r} {s} {t} first second = record {
  stays = λ failed. let one = first.stays failed in second.stays (ap (λ (x : GuardedSink). x.failed) one ∙ failed) ∙ one;
  goes = λ clear. let one = first.goes clear in
      elim (flag b.failed) as (λ _. GoesOn a c p r (s ++ t)) [
        | inl failed ↦ goes_stays t one failed (second.stays failed)
        | inr clean ↦ goes_goes one clean (second.goes clean)
      ];
  same_sink = second.same_sink ∙ first.same_sink;
}

-- the same text in other words
pub puts_as : {a b : GuardedSink} {p q s : List ℕ} (t : List ℕ) → s ≡ t → Puts a b p q s → Puts a b p q t
puts_as {a} {b} {p} {q} t same first = subst (λ (l : List ℕ). Puts a b p q l) same first

-- a piece that only waits
pub waits_behind : (a : GuardedSink) (p q t : List ℕ) → q ≡ p ++ t → Puts a a p q t
waits_behind a p q t text = record {
  stays = λ set. refl;
  goes = λ clear. record {
    sent = [];
    left = p ++ t;
    whole = refl;
    bytes = grew_nothing a.written;
    waits = λ same. sym text;
    cause = λ set. absurd (not_both set clear);
    never_falls = omega arith;
  };
  same_sink = refl;
}

-- a front of a list, and more of it
pub puts_more : {a b c : GuardedSink} {p q r : List ℕ} (i n : ℕ) (xs : List ℕ) →
    Puts a b p q (take i xs) → Puts b c q r (take n (take (length xs - i) (drop i xs))) → Puts a c p r (take (i + n) xs)
puts_more i n xs first second = puts_as (take (i + n) xs) (ap (λ l. take i xs ++ take n l) (rest_of i xs) ∙ sym (take-add i n xs)) (first ▸ second)

-- at the end nothing waits: the sink has the whole text
pub puts_whole : {a b : GuardedSink} {p q t : List ℕ} → a.failed ≡ false → p ≡ [] → Puts a b p q t → b.failed ≡ false → q ≡ [] →
    b.written ≡ option_map (λ before. before ++ t) a.written
puts_whole {a} {b} {p} {q} {t} clear blank puts clean ended =
    let goes = puts.goes clear in
    let all : t ≡ goes.sent = ap (λ l. l ++ t) (sym blank) ∙ goes.whole ∙ ap (λ l. goes.sent ++ l) (goes.waits clean ∙ ended) ∙ append-nil goes.sent in
    goes.bytes ∙ ap (λ l. option_map (λ before. before ++ l) a.written) (sym all)

-- a failure on the way: the sink has a front of the text
pub puts_part : {a b : GuardedSink} {p q t : List ℕ} → a.failed ≡ false → p ≡ [] → Puts a b p q t → CutShort a.written b.written t
puts_part {a} {b} {p} {q} {t} clear blank puts =
    let goes = puts.goes clear in
    record { sent = goes.sent; left = goes.left; whole = ap (λ l. l ++ t) (sym blank) ∙ goes.whole; bytes = goes.bytes }

-- a failure on the way shows in the count
pub puts_rose : {a b : GuardedSink} {p q t : List ℕ} → a.failed ≡ false → Puts a b p q t → b.failed ≡ true → Rose a.faults b.faults
puts_rose {a} {b} {p} {q} {t} clear puts set = let goes = puts.goes clear in goes.cause set

-- no count falls
pub puts_never_falls : {a b : GuardedSink} {p q t : List ℕ} → a.failed ≡ false → Puts a b p q t → a.faults ≤ b.faults
puts_never_falls {a} {b} {p} {q} {t} clear puts = let goes = puts.goes clear in goes.never_falls
