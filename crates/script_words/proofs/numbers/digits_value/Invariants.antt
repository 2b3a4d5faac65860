use Rattle.std.proofs.Common.{◌≡◌, true, min, take}
use Rattle.std.specs.List.{list_all}
use Rattle.script_words.specs.Numbers.{is_digit, value_in}
use Rattle.script_words.proofs.numbers.digits_value.Given as goal

abbrev pub invariant-loop-digit : goal.invariant-loop-digit
invariant-loop-digit l = record {
  all : list_all is_digit (take l.digit-index l.digits) ≡ true;
  value : l.value ≡ min (value_in 10 (take l.digit-index l.digits)) 4294967296;
}
