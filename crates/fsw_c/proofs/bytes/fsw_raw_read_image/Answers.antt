use Rattle.std.proofs.Common.{length, ap, ◌∙◌}
use Rattle.fsw_c.proofs.bytes.fsw_raw_read_image.Goals as goal

pub returns-in-Ok-clause-shown : goal.returns-in-Ok-clause-shown
returns-in-Ok-clause-shown c zero =
    let fields = c.in-Ok.ensures.image.fields in
    record {
      description = c.of.ensures.description ∙ ap length fields.description;
      name = c.of.ensures.name ∙ ap length fields.name;
      bytes = c.of.ensures.bytes ∙ ap length fields.bytes;
      offset = c.of.ensures.offset ∙ fields.offset;
    }
