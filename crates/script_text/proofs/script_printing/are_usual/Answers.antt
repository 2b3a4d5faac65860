use Rattle.std.proofs.Common.{◌≡◌, length, ap, sym, ◌∙◌, arith, below_more}
use Rattle.script_words.specs.Text.{is_same}
use Rattle.script_text.proofs.PrintLemmas.{same_each, differ_in_length, differ_at}
use Rattle.script_text.proofs.script_printing.are_usual.Goals as goal

pub loop-i-preserved : goal.loop-i-preserved
loop-i-preserved c = below_more _ _ c.loop-i.invariant (sym c.at.ensures ∙ c.if-at.false ∙ c.at-in-loop-i.ensures)

pub returns : goal.returns
returns c =
    let len : length c.args.sizes.now ≡ length c.usual-usual.result = sym c.count.ensures.count ∙ c.if-count.false ∙ c.count-2.ensures.count in
    sym (same_each c.args.sizes.now c.usual-usual.result len (λ k lt. c.loop-i.invariant k (omega (arith, c.count-i-end.ensures.count)))) ∙ ap (is_same c.args.sizes.now) c.usual-usual.ensures

pub returns-then-count : goal.returns-then-count
returns-then-count c =
    sym (differ_in_length c.args.sizes.now c.usual-usual.result (λ e. c.if-count.true (c.count.ensures.count ∙ e ∙ sym c.count-2.ensures.count))) ∙ ap (is_same c.args.sizes.now) c.usual-usual.ensures

pub returns-then-at : goal.returns-then-at
returns-then-at c =
    sym (differ_at c.args.sizes.now c.usual-usual.result c.loop-i.i (λ e. c.if-at.true (c.at.ensures ∙ e ∙ sym c.at-in-loop-i.ensures))) ∙ ap (is_same c.args.sizes.now) c.usual-usual.ensures
