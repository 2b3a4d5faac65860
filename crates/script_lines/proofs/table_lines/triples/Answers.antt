use Rattle.std.proofs.Common.{◌≡◌, ◌∷◌, [], ap, arith, length, rules}
use Rattle.std.proofs.lemmas.Result.{err_from_is_err_and}
use Rattle.std.proofs.lemmas.List.{length-append}
use Rattle.script_words.specs.Text.{words_of}
use Rattle.script_words.specs.Lists.{each}
use Rattle.script_lines.specs.TableLines.{triple_word}
use Rattle.script_words.proofs.ListLemmas.{each_more, each_fault, each_end}
use Rattle.script_lines.proofs.table_lines.triples.Goals as goal

pub returns-in_err-triple : goal.returns-in_err-triple
returns-in_err-triple c =
    let p = err_from_is_err_and c.from_residual.result c.from_residual.ensures.1 in
    rw (p.1, p.2) (each_fault triple_word c.loop-word.triples.items (words_of c.loop-word.rest.now) (words_of c.in-Some.behind.now) c.in-Some.word.now c.in_err-triple.field-0.0 (each triple_word (words_of c.args.words.now)) c.in_err-triple.ensures c.in-Some.ensures.words c.loop-word.invariant.read)

pub loop-word-preserved : goal.loop-word-preserved
loop-word-preserved c = record {
  read = rw c.push.ensures.items (each_more triple_word c.loop-word.triples.items (words_of c.loop-word.rest.now) (words_of c.in-Some.behind.now) c.in-Some.word.now c.in_ok-triple.triple (each triple_word (words_of c.args.words.now)) c.in_ok-triple.ensures c.in-Some.ensures.words c.loop-word.invariant.read);
  room = omega (arith, ap length c.push.ensures.items, length-append c.loop-word.triples.items (c.in_ok-triple.triple ∷ []), ap length c.in-Some.ensures.words, c.loop-word.invariant.room);
}

pub returns : goal.returns
returns c =
    let end : words_of c.loop-word.rest.now ≡ [] = search rules in
    each_end triple_word c.loop-word.triples.items (words_of c.loop-word.rest.now) (each triple_word (words_of c.args.words.now)) end c.loop-word.invariant.read
