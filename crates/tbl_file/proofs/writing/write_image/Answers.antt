use Rattle.std.proofs.Common.{◌≡◌, ◌<◌, ◌^◌, ◌++◌, ◌∙◌, length, rules, arith, sym, subst}
use Rattle.tbl_file.specs.Image.{image_file, IsImage}
use Rattle.tbl_file.proofs.ImageLemmas.{name_short, parts_put, file_is_image}
use Rattle.tbl_file.proofs.writing.write_image.Goals as goal

pub name_field-requires : goal.name_field-requires
name_field-requires c = omega (arith, (name_short c.args.image.now.name.now c.requires.name).1)

-- the five parts, one behind the other
pub returns-clause-file : goal.returns-clause-file
unfolding image_file
returns-clause-file c =
    let image = c.args.image.now in
    let one : length c.file_header.result ≡ 32 = search rules in
    let three : length c.table_header.result ≡ 12 = search rules in
    let four : length c.name_field.result ≡ 40 = search rules in
    parts_put c.args.out.now c.put.new.out c.put-2.new.out c.put-3.new.out c.put-4.new.out c.put-5.new.out
    c.file_header.result image.description.now c.table_header.result c.name_field.result image.bytes.now one c.requires.description three four
    c.put.ensures.front c.put-2.ensures.front c.put-3.ensures.front c.put-4.ensures.front c.put-5.ensures.front
    (c.put-5.ensures.length ∙ c.put-4.ensures.length ∙ c.put-3.ensures.length ∙ c.put-2.ensures.length ∙ c.put.ensures.length ∙ c.requires.size)
    ∙ (λ i. c.file_header.ensures i ++ image.description.now ++ c.table_header.ensures i ++ c.name_field.ensures i ++ image.bytes.now)

pub returns-clause-reads_back : goal.returns-clause-reads_back
returns-clause-reads_back c =
    let image = c.args.image.now in
    let few : length c.args.image.now.bytes.now < 2 ^ 32 = omega (arith, c.requires.size, c.requires.few) in
    subst (λ file. IsImage file c.args.image.now) (sym (returns-clause-file c)) (file_is_image image c.requires.description c.requires.name c.requires.some few c.recall_numbers.ensures)
