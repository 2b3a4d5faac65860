use Rattle.script_words.specs.Numbers.{hex_bytes}
use Rattle.script_words.proofs.NumberLemmas.{hex_more, hex_end}
use Rattle.script_words.proofs.content.bytes_spelled.Goals as goal

pub loop-rest-preserved : goal.loop-rest-preserved
loop-rest-preserved c = hex_more c.loop-rest.bytes.items c.push.new.self.items c.loop-rest.rest.now c.split_at.result.1.now c.split_at.result.0.now (hex_bytes c.args.word.now) c.digit_value.result c.digit_value-in-loop-rest.result c.loop-rest-test.true c.split_at.ensures.front c.split_at.ensures.back c.digit_value.ensures.value c.digit_value-in-loop-rest.ensures.value c.in_ok-push.ensures.items c.loop-rest.invariant

pub returns : goal.returns
returns c = hex_end c.loop-rest.bytes.items c.loop-rest.rest.now (hex_bytes c.args.word.now) c.loop-rest-test.false c.loop-rest.invariant
