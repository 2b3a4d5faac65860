use Rattle.sb_calls.proofs.PipeMessages.{shown}
use Rattle.sb_calls.proofs.OpeningBags.{opens}
use Rattle.sb_calls.proofs.OthersBags.{others_keep, others_behind, called_by, called_further}
use Rattle.sb_calls.proofs.laws.bags_stay.Goals as goal

pub returns-clause-opens : goal.returns-clause-opens
returns-clause-opens c = opens

pub returns-clause-shown : goal.returns-clause-shown
returns-clause-shown c = shown

pub returns-clause-other_bags : goal.returns-clause-other_bags
returns-clause-other_bags c = others_keep

pub returns-clause-behind : goal.returns-clause-behind
returns-clause-behind c = others_behind

pub returns-clause-called : goal.returns-clause-called
returns-clause-called c = called_by

pub returns-clause-further : goal.returns-clause-further
returns-clause-further c = called_further

pub returns-clause-written : goal.returns-clause-written
returns-clause-written c core app number bag w has = record {
  views = c.recall_written.ensures.views _ _ core.limits.pipes app number bag w has.views;
  buffers = c.recall_written.ensures.buffers _ _ core.limits.sizes app number bag w has.buffers;
}
