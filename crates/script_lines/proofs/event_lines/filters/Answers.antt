use Rattle.std.proofs.Common.{◌+◌, ◌∷◌, [], ap, arith, length, drop}
use Rattle.std.proofs.lemmas.Result.{err_from_is_err_and}
use Rattle.std.proofs.lemmas.List.{drop_all, length-append}
use Rattle.script_words.specs.Lists.{each}
use Rattle.script_lines.specs.EventLines.{filter_of}
use Rattle.script_words.proofs.ListLemmas.{each_more, each_fault, each_end, drop_cut}
use Rattle.script_lines.proofs.event_lines.filters.Goals as goal

pub returns-in_err-filter : goal.returns-in_err-filter
returns-in_err-filter c =
    let p = err_from_is_err_and c.from_residual.result c.from_residual.ensures.1 in
    rw (p.1, p.2) (each_fault filter_of c.loop-pair.kept.items (drop c.loop-pair.pair-index c.args.pairs.now) (drop (c.loop-pair.pair-index + 1) c.args.pairs.now) _ c.in_err-filter.field-0.0 (each filter_of c.args.pairs.now) c.in_err-filter.ensures (drop_cut c.args.pairs.now c.loop-pair.pair-index _ c.loop-pair-test.true) c.loop-pair.invariant.read)

pub loop-pair-preserved : goal.loop-pair-preserved
loop-pair-preserved c = record {
  read = rw c.push.ensures.items (each_more filter_of c.loop-pair.kept.items (drop c.loop-pair.pair-index c.args.pairs.now) (drop (c.loop-pair.pair-index + 1) c.args.pairs.now) _ c.in_ok-filter.filter (each filter_of c.args.pairs.now) c.in_ok-filter.ensures (drop_cut c.args.pairs.now c.loop-pair.pair-index _ c.loop-pair-test.true) c.loop-pair.invariant.read);
  count = omega (arith, ap length c.push.ensures.items, length-append c.loop-pair.kept.items (c.in_ok-filter.filter ∷ []), c.loop-pair.invariant.count);
}

pub returns : goal.returns
returns c = each_end filter_of c.loop-pair.kept.items (drop c.loop-pair.pair-index c.args.pairs.now) (each filter_of c.args.pairs.now) (drop_all c.loop-pair.pair-index c.args.pairs.now c.loop-pair-test.false) c.loop-pair.invariant.read
