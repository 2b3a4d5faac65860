use Rattle.std.proofs.Common.{ℕ, List, Option, Bor, ap, ◌∙◌}
use Rattle.std.specs.Option.{option_map}
use Rattle.checked_bus.specs.Asked.{is_application}
use Rattle.checked_bus.specs.Box.{last_message}
use Rattle.fsw_c.specs.Shown.{shown_length}
use Rattle.fsw_c.proofs.Shown.{shown}
use Rattle.fsw_c.proofs.messages.FswMessage.of.Goals as goal

pub returns-clause-length : goal.returns-clause-length
returns-clause-length c =
    let core = c.args.bus.now.core in
    c.of_any-at.ensures.length ∙ ap shown_length (shown (is_application core c.args.app) _ (last_message core c.args.app c.args.pipe) c.message.ensures.known (λ out. ap (λ (it : Option (Bor (List ℕ))). option_map (λ bytes. bytes.now) it) (c.message.ensures.unknown out)))
