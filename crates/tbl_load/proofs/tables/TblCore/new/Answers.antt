use Rattle.std.proofs.Common.{◌≡◌, length, is_some, true≢false, ap, sym, ◌∙◌, subst, arith}
use Rattle.fsw_base.specs.Limits.{limits_of}
use Rattle.journal_store.specs.Budgets.{entries_left}
use Rattle.tbl_words.specs.Holds.{hold_of}
use Rattle.tbl_words.specs.Log.{left_of}
use Rattle.tbl_words.specs.Machine.{state_after}
use Rattle.tbl_words.specs.Tables.{opening}
use Rattle.tbl_words.specs.Uses.{peak_after}
use Rattle.table_core.specs.Core.{Plain}
use Rattle.tbl_load.specs.Core.{IsLegalCore}
use Rattle.tbl_load.specs.Notes.{NotedLog}
use Rattle.tbl_load.proofs.Budgets.{entries_left-allowances}
use Rattle.tbl_load.proofs.tables.TblCore.new.Goals as goal

pub invariant_of-result : goal.invariant_of-result
invariant_of-result c =
    let budgets = c.args.budgets.now in
    let core = c.in_ok-new.field-0 in
    let noted = c.in_ok-new-2.field-0 in
    let log = c.in_ok-new-2.ensures in
    let apps : length noted.log.budgets ≡ length budgets = ap (λ (n : NotedLog). length n.log.budgets) log in
    let no_entry = ap (λ (n : NotedLog). length n.log.entries) log in
    let entries = ap (λ (n : NotedLog). entries_left (left_of n.log)) log ∙ entries_left-allowances budgets in
    record {
      legal = subst (λ (n : NotedLog). IsLegalCore (record { limits = core.limits; log = n.log; notes = n.notes })) (sym log) tt;
      state = ap (λ (p : Plain). p.state) c.in_ok-new.ensures ∙ ap (opening (limits_of c.args.cfg.now)) (sym apps)
          ∙ ap (λ limits. opening limits (length noted.log.budgets)) (sym (ap (λ (p : Plain). p.limits) c.in_ok-new.ensures))
          ∙ ap (λ (n : NotedLog). state_after core.limits (length noted.log.budgets) n.log.entries) (sym log);
      loans = λ n some. absurd (true≢false (sym some ∙ ap (λ (p : Plain). is_some (hold_of p.state.handles n)) c.in_ok-new.ensures));
      peak = ap (λ (n : NotedLog). n.peak) log ∙ ap (λ (n : NotedLog). peak_after core.limits (length noted.log.budgets) n.log.entries) (sym log);
      few = omega (arith, no_entry, entries, c.requires.budgets.entries);
    }
