use Rattle.tbl_words.proofs.Peaks.{peaks_go_on, peaks_are_greatest}
use Rattle.tbl_words.proofs.laws.peaks_are_greatest.Goals as goal

pub returns : goal.returns
returns c = record { go_on = peaks_go_on; greatest = peaks_are_greatest }
