use Rattle.std.proofs.Common.{◌≡◌, ◌+◌, drop}
use Rattle.bus_words.specs.Held.{bytes_of}
use Rattle.list_messages.proofs.blocks.bytes_in_use.Given as goal

-- what is left makes up the sum
abbrev pub invariant-loop-class : goal.invariant-loop-class
invariant-loop-class l = l.bytes + bytes_of (drop l.class l.account.out) (drop l.class l.account.sizes) ≡ bytes_of l.account.out l.account.sizes
