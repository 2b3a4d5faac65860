use Rattle.std.proofs.Common.{ap, ◌∙◌}
use Rattle.tbl_words.specs.Uses.{peak_after}
use Rattle.tbl_load.specs.Core.{Core, apps_of}
use Rattle.tbl_load.proofs.tables.TblCore.tables_peak.Goals as goal

pub returns : goal.returns
returns c =
    c.peak.ensures ∙ c.self.invariant.peak ∙ ap (λ (core : Core). peak_after core.limits (apps_of core) core.log.entries) c.self.view_is
