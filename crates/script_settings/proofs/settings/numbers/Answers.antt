use Rattle.std.proofs.Common.{◌≡◌, ◌∷◌, [], ap, arith, length, rules}
use Rattle.std.proofs.lemmas.Result.{err_from_is_err_and}
use Rattle.std.proofs.lemmas.List.{length-append}
use Rattle.script_words.specs.Text.{words_of}
use Rattle.script_words.specs.Lists.{each}
use Rattle.script_words.specs.Numbers.{number_of}
use Rattle.script_words.proofs.ListLemmas.{each_more, each_fault, each_end}
use Rattle.script_settings.proofs.settings.numbers.Goals as goal

pub returns-in_err-n : goal.returns-in_err-n
returns-in_err-n c =
    let p = err_from_is_err_and c.from_residual.result c.from_residual.ensures.1 in
    rw (p.1, p.2) (each_fault number_of c.loop-word.numbers.items (words_of c.loop-word.rest.now) (words_of c.in-Some.behind.now) c.in-Some.word.now c.in_err-n.field-0.0 (each number_of (words_of c.args.words.now)) c.in_err-n.ensures c.in-Some.ensures.words c.loop-word.invariant.read)

pub loop-word-preserved : goal.loop-word-preserved
loop-word-preserved c = record {
  read = rw c.push.ensures.items (each_more number_of c.loop-word.numbers.items (words_of c.loop-word.rest.now) (words_of c.in-Some.behind.now) c.in-Some.word.now c.in_ok-n.n (each number_of (words_of c.args.words.now)) c.in_ok-n.ensures c.in-Some.ensures.words c.loop-word.invariant.read);
  room = omega (arith, ap length c.push.ensures.items, length-append c.loop-word.numbers.items (c.in_ok-n.n ∷ []), ap length c.in-Some.ensures.words, c.loop-word.invariant.room);
}

pub returns : goal.returns
returns c =
    let end : words_of c.loop-word.rest.now ≡ [] = search rules in
    each_end number_of c.loop-word.numbers.items (words_of c.loop-word.rest.now) (each number_of (words_of c.args.words.now)) end c.loop-word.invariant.read
