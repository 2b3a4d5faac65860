use Rattle.std.proofs.Common.{rules}
use Rattle.std.proofs.lemmas.Fn.{filter_same}
use Rattle.tbl_words.specs.Tables.{has_handle}
use Rattle.list_tables.proofs.tables.retain_held.Goals as goal

pub returns : goal.returns
returns c = filter_same _ (λ t. has_handle c.args.left.now t.number) _ (λ x b f' called. search rules) _ _ c.retain.ensures.filtered
