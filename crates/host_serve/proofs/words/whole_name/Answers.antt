use Rattle.std.proofs.Common.{◌∙◌}
use Rattle.host_serve.proofs.Numbers.{name_kept}
use Rattle.host_serve.proofs.words.whole_name.Goals as goal

pub returns : goal.returns
returns c = c.front_of.ensures ∙ name_kept c.args.name.now c.requires
