use Rattle.std.proofs.Common.{ap, ◌∙◌}
use Rattle.tbl_words.specs.Tables.{State}
use Rattle.tbl_words.specs.Uses.{use_of}
use Rattle.tbl_load.specs.Core.{Core, state_of}
use Rattle.tbl_load.proofs.tables.TblCore.tables_now.Goals as goal

pub returns : goal.returns
returns c =
    c.in_use.ensures
    ∙ ap (λ (s : State). use_of c.self.inside.core.limits s) c.self.invariant.state
    ∙ ap (λ (core : Core). use_of core.limits (state_of core)) c.self.view_is
