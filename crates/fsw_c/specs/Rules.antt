-- What rules of C stand for.
use Rattle.std.specs.Prelude.{List, map}
use Rattle.tbl_rules.specs.declared.rules.Rule.{Rule}
use Rattle.fsw_c.specs.declared.registering.FswRule.{FswRule}

-- a rule
abbrev pub rule_in : FswRule → Rule
rule_in given = record { offset = given.offset; low = given.low; high = given.high }

-- rules
abbrev pub rules_in : List FswRule → List Rule
rules_in = map rule_in
