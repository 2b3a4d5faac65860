-- Bytes written over those of one block of a bag change what is found of that block alone.
use Rattle.std.proofs.Common.{◌≡◌, ℕ, ◌+◌, suc, Bool, true, false, not, cond, eqb, arith, List, [], ◌∷◌, set, Option, Some, None, refl, ap, sym, ◌∙◌}
use Rattle.std.specs.List.{find, position_or_len}
use Rattle.std.specs.Option.{option_map, option_map_or}
use Rattle.std.proofs.lemmas.Bool.{eqb-true}
use Rattle.std.proofs.lemmas.Bool.Decides.{nat_tests}
use Rattle.buf_desc.specs.Block.{Unsent}
use Rattle.buf_desc.specs.Fronts.{with_bytes}

abbrev found : List Unsent → ℕ → Option Unsent
found blocks number = find (λ (b : Unsent). eqb b.number number) blocks

-- the block in place of the one of the number
abbrev placed : List Unsent → ℕ → Unsent → List Unsent
placed blocks number block = set blocks (position_or_len (λ (b : Unsent). eqb b.number number) blocks) block

abbrev written : List Unsent → ℕ → List ℕ → List Unsent
written blocks number w = placed blocks number (option_map_or (λ (b : Unsent). with_bytes b w) (found blocks number) (record { desc = 0; number = 0; size = 0; bytes = w }))

eqb_off : (a b c : ℕ) → eqb a b ≡ false → eqb a c ≡ true → eqb b c ≡ false
eqb_off a b c apart same = grind (arith, nat_tests)

pub seen_written : (blocks : List Unsent) (number : ℕ) (w : List ℕ) (other : ℕ) →
    found (written blocks number w) other ≡ cond (eqb number other) (option_map (λ (b : Unsent). with_bytes b w) (found blocks other)) (found blocks other)
seen_written [] number w other = by_test (eqb number other)
  where
    by_test : (t : Bool) → ◌≡◌ {A = Option Unsent} None (cond t None None)
    by_test true = refl
    by_test false = refl
seen_written (b ∷ blocks) number w other = by_test (eqb b.number number) refl (seen_written blocks number w other)
  where
    over : Unsent → Unsent
    over x = with_bytes x w

    none : Unsent
    none = record { desc = 0; number = 0; size = 0; bytes = w }

    first : ℕ
    first = position_or_len (λ (x : Unsent). eqb x.number number) blocks

    -- the blocks written over, and what is found, by whether this block has the number
    there : Bool → List Unsent
    there t = set (b ∷ blocks) (cond (not t) (1 + first) 0) (option_map_or over (cond {A = Option Unsent} t (Some b) (found blocks number)) none)

    wanted : Option Unsent
    wanted = cond (eqb number other) (option_map over (found (b ∷ blocks) other)) (found (b ∷ blocks) other)

    later : ℕ → 1 + first ≡ suc first
    later n = omega arith

    same_number : eqb b.number number ≡ true → found (over b ∷ blocks) other ≡ wanted
    same_number e = by_other (eqb number other) refl (ap (λ n. eqb n other) (eqb-true b.number number e))
      where
        by_other : (u : Bool) → eqb number other ≡ u → eqb b.number other ≡ eqb number other → found (over b ∷ blocks) other ≡ wanted
        by_other true is same =
            ap (λ c. cond {A = Option Unsent} c (Some (over b)) (found blocks other)) (same ∙ is)
            ∙ sym (ap (λ c. cond {A = Option Unsent} c (option_map over (found (b ∷ blocks) other)) (found (b ∷ blocks) other)) is
            ∙ ap (λ c. option_map over (cond {A = Option Unsent} c (Some b) (found blocks other))) (same ∙ is))
        by_other false is same =
            ap (λ c. cond {A = Option Unsent} c (Some (over b)) (found blocks other)) (same ∙ is)
            ∙ sym (ap (λ c. cond {A = Option Unsent} c (option_map over (found (b ∷ blocks) other)) (found (b ∷ blocks) other)) is
            ∙ ap (λ c. cond {A = Option Unsent} c (Some b) (found blocks other)) (same ∙ is))

    other_number : eqb b.number number ≡ false → found (written blocks number w) other ≡ cond (eqb number other) (option_map over (found blocks other)) (found blocks other) →
        found (b ∷ written blocks number w) other ≡ wanted
    other_number e ih = by_other (eqb b.number other) refl
      where
        by_other : (u : Bool) → eqb b.number other ≡ u → found (b ∷ written blocks number w) other ≡ wanted
        by_other true is =
            ap (λ c. cond {A = Option Unsent} c (Some b) (found (written blocks number w) other)) is
            ∙ sym (ap (λ c. cond {A = Option Unsent} c (option_map over (found (b ∷ blocks) other)) (found (b ∷ blocks) other)) (eqb_off b.number number other e is)
            ∙ ap (λ c. cond {A = Option Unsent} c (Some b) (found blocks other)) is)
        by_other false is =
            ap (λ c. cond {A = Option Unsent} c (Some b) (found (written blocks number w) other)) is
            ∙ ih
            ∙ sym (ap (λ c. cond {A = Option Unsent} (eqb number other) (option_map over (cond {A = Option Unsent} c (Some b) (found blocks other))) (cond {A = Option Unsent} c (Some b) (found blocks other))) is)

    by_test : (t : Bool) → eqb b.number number ≡ t → found (written blocks number w) other ≡ cond (eqb number other) (option_map over (found blocks other)) (found blocks other) →
        found (there (eqb b.number number)) other ≡ wanted
    by_test true e ih = ap (λ t. found (there t) other) e ∙ same_number e
    by_test false e ih =
        ap (λ t. found (there t) other) e
        ∙ ap (λ i. found (set (b ∷ blocks) i (option_map_or over (found blocks number) none)) other) (later 0)
        ∙ other_number e ih
