-- The file of an image, part by part, and what its fields read as.
use Rattle.std.proofs.Common.{◌≡◌, ℕ, suc, ◌+◌, ◌-◌, ◌<◌, ◌≤◌, ◌^◌, ◌&&◌, eqb, nat_le, nat_lt, Bool, true, false, cond, List, [], ◌∷◌, ◌++◌, length, take, drop, replicate, flat_map, Some, None, refl, sym, ap, ◌∙◌, arith, append_assoc, not}
use Rattle.std.specs.List.{list_all, position, position_or_len, before_first}
use Rattle.std.proofs.lemmas.Bool.{leb-true, le-ltb, ltb-false, eqb-true, eqb-false, eq-eqb, ne_eqb}
use Rattle.std.proofs.lemmas.List.{take_at, drop_at, take_all, drop-drop, length-append, length-drop, drop-replicate, length-replicate}
use Rattle.byteorder.specs.Endian.{big_number, big_bytes}
use Rattle.byteorder.specs.Numbers.{big_number-reads_back}
use Rattle.tbl_file.specs.declared.image.Image.{Image}
use Rattle.tbl_file.specs.declared.image.ImageFault.TheVariants.{Short, NotCfe, BadName, Empty, Size}
use Rattle.tbl_file.specs.Image.{number_at, table_in, content_id, name_in, size_said, is_table_name, name_field, table_numbers, image_file, IsImage, image_fault}
use Rattle.tbl_file.specs.Inside.{HasShortNumbers}

-- ---- names

abbrev is_visible : ℕ → Bool
is_visible byte = nat_le 0x21 byte && nat_le byte 0x7e

and_parts : (a b : Bool) → (a && b) ≡ true → (a ≡ true) × (b ≡ true)
and_parts true b h = (refl, h)
and_parts false b h = absurd cc

pub name_short : (name : List ℕ) → is_table_name name ≡ true → (1 ≤ length name) × (length name ≤ 39)
unfolding is_table_name
name_short name h =
    let sizes = and_parts (nat_le 1 (length name)) (nat_le (length name) 39) (and_parts (nat_le 1 (length name) && nat_le (length name) 39) (list_all is_visible name) h).0 in
    (leb-true 1 (length name) sizes.0, leb-true (length name) 39 sizes.1)

name_visible : (name : List ℕ) → is_table_name name ≡ true → list_all is_visible name ≡ true
unfolding is_table_name
name_visible name h = (and_parts (nat_le 1 (length name) && nat_le (length name) 39) (list_all is_visible name) h).1

-- a zero byte ends visible bytes
ends_at : (name rest : List ℕ) → list_all is_visible name ≡ true → position_or_len (λ byte. eqb byte 0) (name ++ 0 ∷ rest) ≡ length name
ends_at [] rest h = refl
ends_at (byte ∷ name) rest h =
    let parts = and_parts (is_visible byte) (list_all is_visible name) h in
    let low = leb-true 0x21 byte (and_parts (nat_le 0x21 byte) (nat_le byte 0x7e) parts.0).0 in
    let other : eqb byte 0 ≡ false = ne_eqb byte 0 (λ e. omega (arith, low)) in
    let front = position_or_len (λ byte. eqb byte 0) (name ++ 0 ∷ rest) in
    ap (λ b. cond (not b) (1 + front) 0) other ∙ omega (arith, ends_at name rest parts.1)

name_ends : (name : List ℕ) → is_table_name name ≡ true → before_first (λ byte. eqb byte 0) (name_field name) ≡ name
name_ends name h =
    let short = name_short name h in
    let zeros : replicate (40 - length name) 0 ≡ 0 ∷ replicate (39 - length name) 0 = ap (λ n. replicate n 0) (let same : 40 - length name ≡ suc (39 - length name) = omega (arith, short.1) in same) in
    ap (λ (l : List ℕ). before_first (λ byte. eqb byte 0) (name ++ l)) zeros
    ∙ ap (λ n. take n (name ++ 0 ∷ replicate (39 - length name) 0)) (ends_at name (replicate (39 - length name) 0) (name_visible name h))
    ∙ take_at name (0 ∷ replicate (39 - length name) 0) (length name) refl

-- if the first zero byte is known, or that there is none
pub zero_at : (field : List ℕ) (end : ℕ) → position (λ byte. eqb byte 0) field ≡ Some end → take end field ≡ before_first (λ byte. eqb byte 0) field
zero_at field end e = decide (nat_lt (position_or_len (λ byte. eqb byte 0) field) (length field)) e
  where
    decide : (b : Bool) → cond b (Some (position_or_len (λ byte. eqb byte 0) field)) None ≡ Some end → take end field ≡ before_first (λ byte. eqb byte 0) field
    decide true h = let same : end ≡ position_or_len (λ byte. eqb byte 0) field = cc h in ap (λ n. take n field) same
    decide false h = absurd cc

pub no_zero : (field : List ℕ) → position (λ byte. eqb byte 0) field ≡ None → field ≡ before_first (λ byte. eqb byte 0) field
no_zero field e = decide (nat_lt (position_or_len (λ byte. eqb byte 0) field) (length field)) refl e
  where
    decide : (b : Bool) → nat_lt (position_or_len (λ byte. eqb byte 0) field) (length field) ≡ b → cond b (Some (position_or_len (λ byte. eqb byte 0) field)) None ≡ None → field ≡ before_first (λ byte. eqb byte 0) field
    decide true past h = absurd cc
    decide false past h = sym (take_all (position_or_len (λ byte. eqb byte 0) field) field (ltb-false (position_or_len (λ byte. eqb byte 0) field) (length field) past))

-- ---- faults

pub no_fault : (file : List ℕ) (image : Image) → IsImage file image → image_fault file ≡ None
unfolding image_fault
no_fault file image is =
    let given : length image.bytes.now ≡ length file - 116 = ap length is.fields.bytes ∙ length-drop 116 file in
    let long : nat_lt (length file) 116 ≡ false = le-ltb (length file) 116 (omega (arith, is.some, given)) in
    let content : eqb (number_at 0 file) content_id ≡ true = eq-eqb (number_at 0 file) content_id is.content in
    let named : is_table_name (name_in file) ≡ true = ap is_table_name (sym is.fields.name) ∙ is.named in
    let some : eqb (size_said file) 0 ≡ false = ne_eqb (size_said file) 0 (λ e. omega (arith, e, is.size, is.some)) in
    let size : eqb (size_said file) (length file - 116) ≡ true = eq-eqb (size_said file) (length file - 116) (is.size ∙ given) in
    rw (long, content, named, some, size) refl

-- a file without a fault has a name that is one, and a byte of a table
pub named_file : (file : List ℕ) → image_fault file ≡ None → (is_table_name (name_in file) ≡ true) × (1 ≤ length (table_in file))
unfolding image_fault
named_file file none =
    decide (nat_lt (length file) 116) (eqb (number_at 0 file) content_id) (is_table_name (name_in file)) (eqb (size_said file) 0) (eqb (size_said file) (length file - 116)) refl refl refl none
  where
    decide : (short content named empty size : Bool) → is_table_name (name_in file) ≡ named → eqb (size_said file) 0 ≡ empty → eqb (size_said file) (length file - 116) ≡ size
        → cond short (Some Short) (cond (not content) (Some (NotCfe (number_at 0 file))) (cond (not named) (Some BadName) (cond empty (Some Empty) (cond size None (Some (Size (size_said file) (length file - 116))))))) ≡ None
        → (is_table_name (name_in file) ≡ true) × (1 ≤ length (table_in file))
    decide true content named empty size is_named is_empty is_size e = absurd cc
    decide false false named empty size is_named is_empty is_size e = absurd cc
    decide false true false empty size is_named is_empty is_size e = absurd cc
    decide false true true true size is_named is_empty is_size e = absurd cc
    decide false true true false false is_named is_empty is_size e = absurd cc
    decide false true true false true is_named is_empty is_size e =
        (is_named, omega (arith, eqb-false (size_said file) 0 is_empty, eqb-true (size_said file) (length file - 116) is_size, length-drop 116 file))

-- ---- parts

-- five parts that are put one behind the other
pub parts_put : (old a b d e f one two three four five : List ℕ) → length one ≡ 32 → length two ≡ 32 → length three ≡ 12 → length four ≡ 40
    → take (0 + length one) a ≡ take 0 old ++ one → take (32 + length two) b ≡ take 32 a ++ two → take (64 + length three) d ≡ take 64 b ++ three
    → take (76 + length four) e ≡ take 76 d ++ four → take (116 + length five) f ≡ take 116 e ++ five → length f ≡ 116 + length five
    → f ≡ one ++ two ++ three ++ four ++ five
parts_put old a b d e f one two three four five size_one size_two size_three size_four put_one put_two put_three put_four put_five whole =
    let start : 32 ≡ 0 + length one = omega (arith, size_one) in
    let first : take 32 a ≡ one = ap (λ n. take n a) start ∙ put_one in
    let to_two : 64 ≡ 32 + length two = omega (arith, size_two) in
    let second : take 64 b ≡ one ++ two = ap (λ n. take n b) to_two ∙ put_two ∙ ap (λ l. l ++ two) first in
    let to_three : 76 ≡ 64 + length three = omega (arith, size_three) in
    let third : take 76 d ≡ one ++ two ++ three = ap (λ n. take n d) to_three ∙ put_three ∙ ap (λ l. l ++ three) second in
    let to_four : 116 ≡ 76 + length four = omega (arith, size_four) in
    let fourth : take 116 e ≡ one ++ two ++ three ++ four = ap (λ n. take n e) to_four ∙ put_four ∙ ap (λ l. l ++ four) third in
    sym (take_all (116 + length five) f (omega (arith, whole))) ∙ put_five ∙ ap (λ l. l ++ five) fourth

-- a name in its field
pub name_put : (name : List ℕ) → length name ≤ 40 → name ++ drop (length name) (replicate 40 0) ≡ name_field name
name_put name short = ap (λ l. name ++ l) (drop-replicate (length name) 40 0)

length-name_field : (name : List ℕ) → length name ≤ 40 → length (name_field name) ≡ 40
length-name_field name short = omega (arith, length-append name (replicate (40 - length name) 0), length-replicate {A = ℕ} (40 - length name) 0)

-- ---- reading back

regrouped : (two three four five : List ℕ) → two ++ three ++ four ++ five ≡ two ++ (three ++ four ++ five)
regrouped two three four five = simp append_assoc

-- what is behind the description
behind_description : (image : Image) → length image.description.now ≡ 32 →
    drop 64 (image_file image) ≡ flat_map (big_bytes 4) (table_numbers image) ++ name_field image.name.now ++ image.bytes.now
unfolding image_file
behind_description image size =
    let two = image.description.now in
    let three = flat_map (big_bytes 4) (table_numbers image) in
    let four = name_field image.name.now in
    ap (drop 32) (regrouped two three four image.bytes.now) ∙ drop_at two (three ++ four ++ image.bytes.now) 32 size

-- an image's file is that image
pub file_is_image : (image : Image) → length image.description.now ≡ 32 → is_table_name image.name.now ≡ true → 1 ≤ length image.bytes.now → length image.bytes.now < 2 ^ 32 → HasShortNumbers image → IsImage (image_file image) image
unfolding image_file
file_is_image image size named some few short =
    let file = image_file image in
    let two = image.description.now in
    let three = flat_map (big_bytes 4) (table_numbers image) in
    let four = name_field image.name.now in
    let five = image.bytes.now in
    let field_size = length-name_field image.name.now (omega (arith, (name_short image.name.now named).1)) in
    let table = behind_description image size in
    let at_name : drop 76 file ≡ four ++ five = sym (drop-drop 12 64 file) ∙ ap (drop 12) table in
    let at_bytes : drop 116 file ≡ five = sym (drop-drop 40 76 file) ∙ ap (drop 40) at_name ∙ drop_at four five 40 field_size in
    record {
      content = big_number-reads_back 4 content_id (drop 4 file) (omega arith);
      fields = record {
        sub = sym (big_number-reads_back 4 image.sub (drop 8 file) (omega (arith, short.sub)));
        length_told = sym (big_number-reads_back 4 image.length (drop 12 file) (omega (arith, short.length_told)));
        spacecraft = sym (big_number-reads_back 4 image.spacecraft (drop 16 file) (omega (arith, short.spacecraft)));
        processor = sym (big_number-reads_back 4 image.processor (drop 20 file) (omega (arith, short.processor)));
        application = sym (big_number-reads_back 4 image.application (drop 24 file) (omega (arith, short.application)));
        seconds = sym (big_number-reads_back 4 image.seconds (drop 28 file) (omega (arith, short.seconds)));
        subseconds = sym (big_number-reads_back 4 image.subseconds (drop 32 file) (omega (arith, short.subseconds)));
        description = sym (ap (take 32) (regrouped two three four five) ∙ take_at two (three ++ four ++ five) 32 size);
        reserved = sym (ap (big_number 4) table ∙ big_number-reads_back 4 image.reserved (drop 4 three ++ four ++ five) (omega (arith, short.reserved)));
        offset = sym (ap (big_number 4) (sym (drop-drop 4 64 file) ∙ ap (drop 4) table) ∙ big_number-reads_back 4 image.offset (drop 8 three ++ four ++ five) (omega (arith, short.offset)));
        name = sym (ap (λ l. before_first (λ byte. eqb byte 0) (take 40 l)) at_name ∙ ap (before_first (λ byte. eqb byte 0)) (take_at four five 40 field_size) ∙ name_ends image.name.now named);
        bytes = sym at_bytes;
      };
      named = named;
      some = some;
      size = ap (big_number 4) (sym (drop-drop 8 64 file) ∙ ap (drop 8) table) ∙ big_number-reads_back 4 (length five) (four ++ five) (omega (arith, few));
    }
