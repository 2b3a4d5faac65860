use Rattle.std.proofs.Common.{◌≡◌, ◌-◌, suc, None, ap, sym, ◌∙◌, arith, drop, subst}
use Rattle.std.proofs.lemmas.List.{drop_all}
use Rattle.app_run.specs.Received.{newest_version}
use Rattle.app_run.proofs.NewestVersions.{version-found, version-passed}
use Rattle.app_run.proofs.receipts.newest_version.Goals as goal

pub loop-place-init : goal.loop-place-init
loop-place-init c = ap (λ rs. newest_version rs c.args.handle) (drop_all c.len-place.result c.args.receipts.now.receipts (omega (arith, c.len-place.ensures)))

pub returns-then-is_some : goal.returns-then-is_some
returns-then-is_some c =
    let receipts = c.args.receipts.now.receipts in
    let one : c.loop-place.place ≡ suc (c.loop-place.place - 1) = omega (arith, c.loop-place-test.true) in
    let none = subst (λ n. newest_version (drop n receipts) c.args.handle ≡ None) one c.loop-place.invariant in
    version-found receipts (c.loop-place.place - 1) c.get.result.now c.args.handle c.version_from-version.result c.get.ensures none c.version_from-version.ensures
    (sym c.is_some.ensures ∙ c.if-is_some.true)

pub loop-place-preserved : goal.loop-place-preserved
loop-place-preserved c =
    let receipts = c.args.receipts.now.receipts in
    let one : c.loop-place.place ≡ suc (c.loop-place.place - 1) = omega (arith, c.loop-place-test.true) in
    let none = subst (λ n. newest_version (drop n receipts) c.args.handle ≡ None) one c.loop-place.invariant in
    version-passed receipts (c.loop-place.place - 1) c.get.result.now c.args.handle c.version_from-version.result c.get.ensures none c.version_from-version.ensures
    (sym c.is_some.ensures ∙ c.if-is_some.false)

pub returns : goal.returns
returns c =
    let through : c.loop-place.place ≡ 0 = omega (arith, c.loop-place-test.false) in
    sym (subst (λ n. newest_version (drop n c.args.receipts.now.receipts) c.args.handle ≡ None) through c.loop-place.invariant)
