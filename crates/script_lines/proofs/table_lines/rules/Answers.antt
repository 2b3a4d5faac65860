use Rattle.std.proofs.Common.{◌+◌, ◌∷◌, [], ap, arith, length, drop}
use Rattle.std.proofs.lemmas.Result.{err_from_is_err_and}
use Rattle.std.proofs.lemmas.List.{drop_all, length-append}
use Rattle.script_words.specs.Lists.{each}
use Rattle.script_lines.specs.TableLines.{rule_of}
use Rattle.script_words.proofs.ListLemmas.{each_more, each_fault, each_end, drop_cut}
use Rattle.script_lines.proofs.table_lines.rules.Goals as goal

pub returns-in_err-rule : goal.returns-in_err-rule
returns-in_err-rule c =
    let p = err_from_is_err_and c.from_residual.result c.from_residual.ensures.1 in
    rw (p.1, p.2) (each_fault rule_of c.loop-triple.kept.items (drop c.loop-triple.triple-index c.args.triples.now) (drop (c.loop-triple.triple-index + 1) c.args.triples.now) _ c.in_err-rule.field-0.0 (each rule_of c.args.triples.now) c.in_err-rule.ensures (drop_cut c.args.triples.now c.loop-triple.triple-index _ c.loop-triple-test.true) c.loop-triple.invariant.read)

pub loop-triple-preserved : goal.loop-triple-preserved
loop-triple-preserved c = record {
  read = rw c.push.ensures.items (each_more rule_of c.loop-triple.kept.items (drop c.loop-triple.triple-index c.args.triples.now) (drop (c.loop-triple.triple-index + 1) c.args.triples.now) _ c.in_ok-rule.rule (each rule_of c.args.triples.now) c.in_ok-rule.ensures (drop_cut c.args.triples.now c.loop-triple.triple-index _ c.loop-triple-test.true) c.loop-triple.invariant.read);
  count = omega (arith, ap length c.push.ensures.items, length-append c.loop-triple.kept.items (c.in_ok-rule.rule ∷ []), c.loop-triple.invariant.count);
}

pub returns : goal.returns
returns c = each_end rule_of c.loop-triple.kept.items (drop c.loop-triple.triple-index c.args.triples.now) (each rule_of c.args.triples.now) (drop_all c.loop-triple.triple-index c.args.triples.now c.loop-triple-test.false) c.loop-triple.invariant.read
