use Rattle.std.proofs.Common.{ap, ◌∙◌}
use Rattle.bus_words.specs.Held.{in_use}
use Rattle.housekeeping.specs.Statistics.{Statistics}
use Rattle.housekeeping.specs.declared.in_use.InUse.{InUse}
use Rattle.run_report.specs.CounterText.{account_text, accounts_text, counts_text, desk_text, uses_text}
use Rattle.run_report.specs.declared.pools.PoolName.TheVariants.{Bus, Tables}
use Rattle.text_page.proofs.PieceTexts.{◌▸◌, puts_as}
use Rattle.report_check.proofs.tail.put_ending.Goals as goal

pub returns : goal.returns
returns g c =
    let limits = c.args.bus.now.limits in
    let s = c.args.bus.now.whole.bus in
    c.put.ensures
    ▸ (puts_as (counts_text limits.version s.statistics.counts)
    (ap (λ v. counts_text v c.counters.result.now.counts) c.version.ensures ∙ ap (λ (k : Statistics). counts_text limits.version k.counts) c.counters.ensures) c.put_counts.ensures
    ▸ puts_as (uses_text (in_use limits s) s.statistics.peak)
    (ap (λ (u : InUse). uses_text u c.peak.result) c.in_use.ensures
    ∙ ap (uses_text (in_use limits s)) (c.peak.ensures ∙ ap (λ (k : Statistics). k.peak) c.counters-2.ensures)) c.put_uses.ensures
    ▸ puts_as _ (ap (account_text Bus) (c.new.ensures ∙ c.account.ensures)) c.put_account.ensures
    ▸ puts_as _ (ap accounts_text c.requires.accounts) c.put_accounts.ensures
    ▸ puts_as _ (ap desk_text c.desk.ensures) c.put_desk.ensures
    ▸ c.put_table_uses.ensures
    ▸ puts_as _ (ap (account_text Tables) c.new-2.ensures) c.put_account-2.ensures)
    ▸ c.put-2.ensures
