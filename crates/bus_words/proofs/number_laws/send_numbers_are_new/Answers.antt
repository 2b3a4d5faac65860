use Rattle.bus_words.proofs.Numbers.{numbers_are_new, numbers_in_order}
use Rattle.bus_words.proofs.number_laws.send_numbers_are_new.Goals as goal

pub returns : goal.returns
returns c = record { in_order = numbers_in_order; new = numbers_are_new }
