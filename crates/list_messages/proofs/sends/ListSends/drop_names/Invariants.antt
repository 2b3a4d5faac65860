use Rattle.std.proofs.Common.{◌≡◌, drop}
use Rattle.list_messages.specs.Sends.{without_names}
use Rattle.list_messages.proofs.sends.ListSends.drop_names.Given as goal

-- the names that are left are still to go
abbrev pub invariant-loop-number : goal.invariant-loop-number
invariant-loop-number l =
    record l.self { uses = without_names l.self.uses (drop l.number-index l.numbers) }
    ≡ record l.initial.self { uses = without_names l.initial.self.uses l.numbers }
