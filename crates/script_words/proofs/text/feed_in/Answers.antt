use Rattle.script_words.specs.Text.{is_feed}
use Rattle.script_words.proofs.TextLemmas.{first_is_place}
use Rattle.script_words.proofs.text.feed_in.Goals as goal

pub returns : goal.returns
returns c = first_is_place is_feed c.args.bytes.now c.memchr.result c.memchr.ensures
