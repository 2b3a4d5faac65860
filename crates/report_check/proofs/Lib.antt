mod Ending
mod Judging
mod KeptReceipts
mod MergedTexts
mod PartLaws
