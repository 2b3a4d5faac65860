use Rattle.std.proofs.Common.{◌<◌, ◌+◌, length, rules, refl, ap}
use Rattle.std.proofs.lemmas.Option.{slice_get_read}
use Rattle.run_report.specs.CounterText.{account_text}
use Rattle.run_report.specs.declared.pools.PoolName.TheVariants.{Applications}
use Rattle.text_page.proofs.ListTexts.{numbered-next}
use Rattle.text_page.proofs.PieceTexts.{◌▸◌, puts_as}
use Rattle.report_check.proofs.accounts.put_accounts.Goals as goal

pub loop-i-preserved : goal.loop-i-preserved
loop-i-preserved g c =
    let accounts = c.args.accounts.now in
    let account = c.index-accounts-i.result in
    let inside : c.loop-i.i < length accounts = search rules in
    puts_as _
    (numbered-next (λ number account. account_text (Applications number) account) accounts c.loop-i.i account
    (slice_get_read accounts (length accounts) c.loop-i.i account refl inside c.index-accounts-i.is))
    (c.loop-i.invariant ▸ puts_as _ (ap (account_text (Applications (c.loop-i.i + 1))) c.new-shown.ensures) c.put_account.ensures)
