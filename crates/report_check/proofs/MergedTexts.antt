-- Receipts of both services, one after another.
use Rattle.std.proofs.Common.{◌≡◌, ℕ, zero, suc, ◌+◌, add-one, ◌<◌, Bool, true, false, true≢false, ◌↔◌, IsTrue, List, [], ◌∷◌, ◌++◌, length, map, take, drop, get_or, refl, ap, sym, ◌∙◌, arith, append_assoc, append-nil}
use Rattle.std.specs.Prelude.{nat_lt, if◌then◌else◌}
use Rattle.std.specs.List.{range_with_len}
use Rattle.std.proofs.lemmas.Grind.{flat_map-append}
use Rattle.std.proofs.lemmas.List.{length-map, map_push, take_more}
use Rattle.bus_words.specs.declared.receipts.Receipt.{Receipt}
use Rattle.run_report.specs.ReceiptText.{application_text, receipt_text, receipts_text}
use Rattle.run_check.specs.Merged.{merged, merged_with, receipts_in}
use Rattle.run_check.specs.Places.{Made}
use Rattle.run_check.proofs.Texts.{numbered_push}
use Rattle.std.proofs.lemmas.Bool.{lt-ltb, ltb-true}

-- of receipts of both services the one comes first whose line does
pub merged-bus : (bus tables : List Made) (m t : Made) → 0 < length bus → 0 < length tables → m ≡ get_or bus 0 m → t ≡ get_or tables 0 t → m.place < t.place →
    merged bus tables ≡ m.receipt ∷ merged (drop 1 bus) tables
merged-bus [] tables m t some more first other less = absurd (omega (arith, some))
merged-bus (x ∷ ms) [] m t some more first other less = absurd (omega (arith, more))
merged-bus (x ∷ ms) (y ∷ ts) m t some more first other less =
    let before : nat_lt x.place y.place ≡ true = lt-ltb x.place y.place (omega (arith, less, ap (λ (a : Made). a.place) first, ap (λ (a : Made). a.place) other)) in
    ap (λ (b : Bool). if b then x.receipt ∷ merged ms (y ∷ ts) else (y.receipt ∷ merged_with x ms (merged ms) ts)) before
    ∙ ap (λ (a : Made). a.receipt ∷ merged ms (y ∷ ts)) (sym first)

pub merged-tables : (bus tables : List Made) (m t : Made) → 0 < length bus → 0 < length tables → m ≡ get_or bus 0 m → t ≡ get_or tables 0 t → ¬ (m.place < t.place) →
    merged bus tables ≡ t.receipt ∷ merged bus (drop 1 tables)
merged-tables [] tables m t some more first other less = absurd (omega (arith, some))
merged-tables (x ∷ ms) [] m t some more first other less = absurd (omega (arith, more))
merged-tables (x ∷ ms) (y ∷ ts) m t some more first other less =
    let behind : nat_lt x.place y.place ≡ false = by (nat_lt x.place y.place) refl in
    ap (λ (b : Bool). if b then x.receipt ∷ merged ms (y ∷ ts) else (y.receipt ∷ merged_with x ms (merged ms) ts)) behind
    ∙ ap (λ (a : Made). a.receipt ∷ merged_with x ms (merged ms) ts) (sym other)
  where
    by : (b : Bool) → nat_lt x.place y.place ≡ b → b ≡ false
    by false is = refl
    by true is = absurd (less (omega (arith, ltb-true x.place y.place is, ap (λ (a : Made). a.place) first, ap (λ (a : Made). a.place) other)))

-- if none of one service is left, those of the other follow
merged-none : (bus : List Made) → merged bus [] ≡ receipts_in bus
merged-none [] = refl
merged-none (m ∷ ms) = refl

pub put_rest : (app : ℕ) (bus tables : List Made) → ¬ ((0 < length bus) × (0 < length tables)) →
    application_text app (receipts_in bus) ++ application_text app (receipts_in tables) ≡ application_text app (merged bus tables)
put_rest app [] tables none = refl
put_rest app (m ∷ ms) [] none = append-nil (application_text app (receipts_in (m ∷ ms))) ∙ ap (application_text app) (sym (merged-none (m ∷ ms)))
put_rest app (m ∷ ms) (t ∷ ts) none = absurd (none (omega arith, omega arith))

-- what a test says
pub it_holds : (P : Type 0) (b : Bool) → b ≡ true → IsTrue b ↔ P → P
it_holds P b is both = both.0 is

pub it_fails : (P : Type 0) (b : Bool) → b ≡ false → IsTrue b ↔ P → ¬ P
it_fails P b is both = λ holds. true≢false (sym (both.1 holds) ∙ is)

-- the text of what is put is that of all, if this is what was put and what is left
pub put_more : (app : ℕ) (all left more : List Receipt) (r : Receipt) (put : List ℕ) → application_text app all ≡ put ++ application_text app left → left ≡ r ∷ more →
    application_text app all ≡ (put ++ receipt_text app r) ++ application_text app more
put_more app all left more r put whole next =
    whole ∙ ap (λ (rs : List Receipt). put ++ application_text app rs) next ∙ sym (append_assoc put (receipt_text app r) (application_text app more))

-- the text of one receipt more
pub texts_more : (app : ℕ) (made : List Made) (i : ℕ) (m : Made) → i < length made → m ≡ get_or made i m →
    application_text app (receipts_in (take i made)) ++ receipt_text app m.receipt ≡ application_text app (receipts_in (take (i + 1) made))
texts_more app made i m inside there =
    ap (λ l. application_text app (receipts_in (take i made)) ++ l) (sym (append-nil (receipt_text app m.receipt)))
    ∙ sym (flat_map-append (receipt_text app) (receipts_in (take i made)) (m.receipt ∷ []))
    ∙ ap (application_text app)
    (sym (map_push (λ (x : Made). x.receipt) (take i made) m)
    ∙ ap receipts_in (ap (λ (y : Made). take i made ++ y ∷ []) there ∙ sym (take_more made i m inside)))

-- one number more
range-more : (a n m : ℕ) → a + n ≡ m → range_with_len a (suc n) ≡ range_with_len a n ++ m ∷ []
range-more a zero m last = let same : a ≡ m = omega (arith, last) in ap (λ k. k ∷ []) same
range-more a (suc n) m last = ap (λ l. a ∷ l) (range-more (a + 1) n m (omega (arith, last)))

length-range : (a n : ℕ) → length (range_with_len a n) ≡ n
length-range a zero = refl
length-range a (suc n) = ap suc (length-range (a + 1) n)

-- the receipts of one application more
pub receipts_more : (f : ℕ → List Receipt) (n : ℕ) →
    receipts_text (map f (range_with_len 1 n)) ++ application_text (n + 1) (f (n + 1)) ≡ receipts_text (map f (range_with_len 1 (n + 1)))
receipts_more f n =
    ap (λ m. receipts_text (map f (range_with_len 1 n)) ++ application_text m (f (n + 1))) count
    ∙ sym (numbered_push application_text 1 (map f (range_with_len 1 n)) (f (n + 1)))
    ∙ ap receipts_text (sym (map_push f (range_with_len 1 n) (n + 1)) ∙ ap (map f) (sym (range-more 1 n (n + 1) (omega arith)) ∙ ap (range_with_len 1) (sym (add-one n))))
  where
    count : n + 1 ≡ 1 + length (map f (range_with_len 1 n))
    count = omega (arith, length-map (range_with_len 1 n) f, length-range 1 n)
