use Rattle.std.proofs.Common.{◌≡◌, ◌+◌, ◌-◌, ◌<◌, [], length, slice_index_or, Some, ap, sym, ◌∙◌, arith}
use Rattle.std.proofs.lemmas.Option.{slice_get-get_or}
use Rattle.run_report.specs.CounterText.{account_text}
use Rattle.run_report.specs.declared.pools.PoolName.TheVariants.{Applications}
use Rattle.fsw_base.specs.Grants.{new_pool, pool_in, pool_account}
use Rattle.text_page.proofs.ListTexts.{numbered-map-next}
use Rattle.text_page.proofs.PieceTexts.{◌▸◌, puts_as}
use Rattle.run_report.proofs.Accounts.{one_account}
use Rattle.run_report.proofs.pools.put_app_pools.Goals as goal

pub loop-i-preserved : goal.loop-i-preserved
loop-i-preserved g c =
    let pools = c.args.pools.now in
    let pool = pool_in pools (c.loop-i.i + 1) in
    let there : c.loop-i.i < length pools.pools = omega (arith, c.app_pools-i-end.ensures) in
    let same : c.loop-i.i + 1 - 1 ≡ c.loop-i.i = omega arith in
    puts_as _
    (numbered-map-next (λ number account. account_text (Applications number) account) pool_account pools.pools c.loop-i.i pool
    (slice_get-get_or pools.pools c.loop-i.i (new_pool [] 0) there ∙ ap (λ n. Some (slice_index_or pools.pools n (new_pool [] 0))) (sym same)))
    (c.loop-i.invariant
    ▸ puts_as _ (ap (account_text (Applications (c.loop-i.i + 1))) (sym (one_account c.app_pool.result.now (pool_account pool) c.app_pool.ensures))) c.put_account.ensures)
