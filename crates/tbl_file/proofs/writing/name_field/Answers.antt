use Rattle.std.proofs.Common.{List, ℕ, ◌++◌, length, drop, replicate, ap, ◌∙◌}
use Rattle.tbl_file.proofs.ImageLemmas.{name_put}
use Rattle.tbl_file.proofs.writing.name_field.Goals as goal

pub returns : goal.returns
returns c =
    ap (λ (l : List ℕ). l ++ drop (length c.args.name.now) (replicate 40 0)) c.copy_from_slice.ensures.after ∙ name_put c.args.name.now c.requires
