use Rattle.tbl_file.specs.Image.{image_file}
use Rattle.table_images.proofs.packing.fill_packed.Goals as goal

pub returns : goal.returns
unfolding image_file
returns c = c.write_image.ensures.file
