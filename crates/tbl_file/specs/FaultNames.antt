-- The names of the faults of images.
use Rattle.std.specs.Prelude.{ℕ, List, codes}
use Rattle.tbl_file.specs.declared.image.ImageFault.{ImageFault}
use Rattle.tbl_file.specs.declared.image.ImageFault.TheVariants.{TooLarge, Short, NotCfe, BadName, Empty, Size}

-- a fault's name, without its numbers
abbrev pub image_fault_name : ImageFault → List ℕ
image_fault_name TooLarge = codes "TooLarge"
image_fault_name Short = codes "Short"
image_fault_name (NotCfe number) = codes "NotCfe"
image_fault_name BadName = codes "BadName"
image_fault_name Empty = codes "Empty"
image_fault_name (Size said given) = codes "Size"
