use Rattle.std.proofs.Common.{◌≡◌, ◌-◌, length, ap, sym, ◌∙◌, arith}
use Rattle.std.proofs.lemmas.List.{length-drop}
use Rattle.tbl_file.specs.Image.{is_table_name}
use Rattle.tbl_file.proofs.reading.read_image.Goals as goal

pub returns-clause-image : goal.returns-clause-image
returns-clause-image c =
    let given : length c.fields.result.bytes.now ≡ length c.args.file.now - 116 = ap length c.fields.ensures.bytes ∙ length-drop 116 c.args.file.now in
    record {
      content = sym c.number_at-id.ensures ∙ c.if-id-ne-CONTENT_ID.false;
      fields = c.fields.ensures;
      named = ap is_table_name (c.fields.ensures.name ∙ sym c.before_zero-name.ensures) ∙ sym c.if-not-is_table_name.ensures;
      some = omega (arith, given, c.if-said-given.false, c.if-said-eq0.false);
      size = sym c.number_at-said.ensures ∙ c.if-said-given.false ∙ sym given;
    }
