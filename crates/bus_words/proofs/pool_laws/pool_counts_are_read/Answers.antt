use Rattle.bus_words.proofs.Readings.{requests_are_read, errors_are_read}
use Rattle.bus_words.proofs.pool_laws.pool_counts_are_read.Goals as goal

pub returns : goal.returns
returns c = record { requests = requests_are_read; errors = errors_are_read }
