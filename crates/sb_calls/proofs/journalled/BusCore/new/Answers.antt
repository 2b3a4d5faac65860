use Rattle.std.proofs.Common.{◌≡◌, length, is_some, true≢false, ap, sym, ◌∙◌, subst, arith}
use Rattle.fsw_base.specs.Limits.{limits_of}
use Rattle.bus_words.specs.Acts.{opening_whole, whole_after}
use Rattle.journal_store.specs.Budgets.{entries_left}
use Rattle.bus_words.specs.Log.{left_of}
use Rattle.bus_words.specs.Pipes.{last_on}
use Rattle.bus_core.specs.Core.{Plain}
use Rattle.bus_words.specs.Held.{is_unsent}
use Rattle.sb_calls.specs.Core.{IsLegalCore}
use Rattle.sb_calls.specs.Notes.{NotedLog, AreDue}
use Rattle.sb_calls.proofs.UnsentBuffers.{none-first}
use Rattle.sb_calls.proofs.Budgets.{entries_left-allowances}
use Rattle.sb_calls.proofs.journalled.BusCore.new.Goals as goal

pub invariant_of-result : goal.invariant_of-result
invariant_of-result c =
    let budgets = c.args.budgets.now in
    let core = c.in_ok-new-2.field-0 in
    let noted = c.in_ok-new.field-0 in
    let log = c.in_ok-new.ensures in
    let apps : length noted.log.budgets ≡ length budgets = ap (λ (n : NotedLog). length n.log.budgets) log in
    let no_entry = ap (λ (n : NotedLog). length n.log.entries) log in
    let entries = ap (λ (n : NotedLog). entries_left (left_of n.log)) log ∙ entries_left-allowances budgets in
    record {
      legal = subst (λ (n : NotedLog). IsLegalCore (record { limits = core.limits; log = n.log; notes = n.notes })) (sym log) tt;
      due = subst (λ (n : NotedLog). AreDue n.log.entries n.notes) (sym log) tt;
      whole = ap (λ (p : Plain). p.whole) c.in_ok-new-2.ensures ∙ ap (opening_whole (limits_of c.args.cfg.now)) (sym apps)
          ∙ ap (λ limits. opening_whole limits (length noted.log.budgets)) (sym (ap (λ (p : Plain). p.limits) c.in_ok-new-2.ensures))
          ∙ ap (λ (n : NotedLog). whole_after core.limits (length noted.log.budgets) n.log.entries) (sym log);
      loans = λ pipe some. absurd (true≢false (sym some ∙ ap (λ (p : Plain). is_some (last_on p.whole.bus.pipes pipe)) c.in_ok-new-2.ensures));
      descs = λ number is. absurd (true≢false (sym is ∙ ap (λ (p : Plain). is_unsent p.whole.bus.unsent number) c.in_ok-new-2.ensures ∙ none-first (length budgets) number));
      few = omega (arith, no_entry, entries, c.requires.budgets.entries);
    }
