use Rattle.std.proofs.Common.{◌≡◌, ◌-◌, suc, None, ap, sym, ◌∙◌, arith, drop, subst}
use Rattle.std.proofs.lemmas.List.{drop_all}
use Rattle.app_run.specs.Received.{newest_number}
use Rattle.app_run.proofs.NewestReceipts.{newest-found, newest-passed}
use Rattle.app_run.proofs.receipts.newest_number.Goals as goal

pub loop-place-init : goal.loop-place-init
loop-place-init c = ap (λ rs. newest_number rs c.args.pipe) (drop_all c.len-place.result c.args.receipts.now.receipts (omega (arith, c.len-place.ensures)))

pub returns-then-is_some : goal.returns-then-is_some
returns-then-is_some c =
    let receipts = c.args.receipts.now.receipts in
    let one : c.loop-place.place ≡ suc (c.loop-place.place - 1) = omega (arith, c.loop-place-test.true) in
    let none = subst (λ n. newest_number (drop n receipts) c.args.pipe ≡ None) one c.loop-place.invariant in
    newest-found receipts (c.loop-place.place - 1) c.get.result.now c.args.pipe c.number_from-number.result c.get.ensures none c.number_from-number.ensures
    (sym c.is_some.ensures ∙ c.if-is_some.true)

pub loop-place-preserved : goal.loop-place-preserved
loop-place-preserved c =
    let receipts = c.args.receipts.now.receipts in
    let one : c.loop-place.place ≡ suc (c.loop-place.place - 1) = omega (arith, c.loop-place-test.true) in
    let none = subst (λ n. newest_number (drop n receipts) c.args.pipe ≡ None) one c.loop-place.invariant in
    newest-passed receipts (c.loop-place.place - 1) c.get.result.now c.args.pipe c.number_from-number.result c.get.ensures none c.number_from-number.ensures
    (sym c.is_some.ensures ∙ c.if-is_some.false)

pub returns : goal.returns
returns c =
    let through : c.loop-place.place ≡ 0 = omega (arith, c.loop-place-test.false) in
    sym (subst (λ n. newest_number (drop n c.args.receipts.now.receipts) c.args.pipe ≡ None) through c.loop-place.invariant)
