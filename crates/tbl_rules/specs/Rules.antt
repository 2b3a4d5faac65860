-- Validation rules of a table: what is asked of single bytes of its value (cFE Table Services,
-- validation).
use Rattle.std.specs.Prelude.{ℕ, ◌+◌, ◌&&◌, ◌||◌, not, nat_le, nat_lt, Bool, List, slice_index, position, Option}
use Rattle.std.specs.List.{list_any}
use Rattle.std.specs.Option.{option_map}
use Rattle.tbl_rules.specs.declared.rules.Rule.{Rule}

-- no table of so many bytes can have this rule: its byte isn't there, or its least value is above
-- its greatest
abbrev pub is_misfit : ℕ → Rule → Bool
is_misfit size rule = nat_le size rule.offset || nat_lt rule.high rule.low

-- whether one of the rules is such a one
abbrev pub has_misfit : ℕ → List Rule → Bool
has_misfit size rules = list_any (is_misfit size) rules

-- the rule's byte is from its least value to its greatest
abbrev pub is_met : List ℕ → Rule → Bool
is_met value rule =
    nat_le rule.low (slice_index value rule.offset) &&
    nat_le (slice_index value rule.offset) rule.high

-- the number, from 1, of the first rule that a value fails; none if it meets them all
abbrev pub failed_rule : List Rule → List ℕ → Option ℕ
failed_rule rules value =
    option_map (λ place. place + 1) (position (λ rule. not (is_met value rule)) rules)
