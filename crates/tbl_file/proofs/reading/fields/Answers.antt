use Rattle.std.proofs.Common.{refl}
use Rattle.std.proofs.lemmas.List.{take_rest}
use Rattle.tbl_file.proofs.reading.fields.Goals as goal

-- each field from its place
pub returns : goal.returns
returns c = record {
  sub = c.number_at.ensures;
  length_told = c.number_at-2.ensures;
  spacecraft = c.number_at-3.ensures;
  processor = c.number_at-4.ensures;
  application = c.number_at-5.ensures;
  seconds = c.number_at-6.ensures;
  subseconds = c.number_at-7.ensures;
  description = refl;
  reserved = c.number_at-8.ensures;
  offset = c.number_at-9.ensures;
  name = c.requires.name;
  bytes = take_rest c.args.file.now 116;
}
