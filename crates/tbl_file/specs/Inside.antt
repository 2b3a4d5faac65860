-- What the type of an image says of its numbers.
use Rattle.std.specs.Prelude.{◌<◌, ◌^◌}
use Rattle.tbl_file.specs.declared.image.Image.{Image}

-- each has 32 bits
pub record HasShortNumbers (image : Image) : Type 0 where
  pub sub : image.sub < 2 ^ 32
  pub length_told : image.length < 2 ^ 32
  pub spacecraft : image.spacecraft < 2 ^ 32
  pub processor : image.processor < 2 ^ 32
  pub application : image.application < 2 ^ 32
  pub seconds : image.seconds < 2 ^ 32
  pub subseconds : image.subseconds < 2 ^ 32
  pub reserved : image.reserved < 2 ^ 32
  pub offset : image.offset < 2 ^ 32
