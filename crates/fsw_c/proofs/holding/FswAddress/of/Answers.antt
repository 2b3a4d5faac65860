use Rattle.std.proofs.Common.{ap, ◌∙◌}
use Rattle.std.specs.Option.{option_map}
use Rattle.checked_tables.specs.Asked.{is_application}
use Rattle.checked_tables.specs.Box.{held_value}
use Rattle.fsw_c.specs.Shown.{shown_length}
use Rattle.fsw_c.proofs.Shown.{shown}
use Rattle.fsw_c.proofs.holding.FswAddress.of.Goals as goal

pub returns-clause-length : goal.returns-clause-length
returns-clause-length c =
    let core = c.args.tables.now.core in
    c.of_any-at.ensures.length ∙ ap shown_length (shown (is_application core c.args.app) _ (held_value core c.args.app c.args.handle) c.held.ensures.known (λ no. ap (option_map (λ bytes. bytes.now)) (c.held.ensures.unknown no)))
