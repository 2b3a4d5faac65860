use Rattle.std.proofs.Common.{◌≡◌, ◌<◌, false, true, length, sym, ◌∙◌, arith}
use Rattle.host_report.proofs.CopyLaws.{copy_stops, copy_goes, fits-empty}
use Rattle.host_report.proofs.mem_audit.copy_entries.Goals as goal

pub returns-then-not-copy_entry-clause-fits : goal.returns-then-not-copy_entry-clause-fits
returns-then-not-copy_entry-clause-fits c =
    let there : c.loop-i.i < length c.args.journal.now.entries = omega arith in
    let refused : c.copy_entry.result ≡ false = cc in
    sym (copy_stops c.loop-i.target c.copy_entry.new.target c.args.journal.now.entries c.loop-i.i c.copy_entry.result there c.copy_entry.ensures refused) ∙ c.loop-i.invariant.rest

pub loop-i-preserved : goal.loop-i-preserved
loop-i-preserved c =
    let there : c.loop-i.i < length c.args.journal.now.entries = omega arith in
    let added : c.copy_entry.result ≡ true = cc in
    let more = copy_goes c.loop-i.target c.copy_entry.new.target c.args.journal.now.entries c.loop-i.i c.copy_entry.result there c.copy_entry.ensures added c.loop-i.invariant.copied in
    record { copied = more.0; rest = more.1 ∙ c.loop-i.invariant.rest }

pub loop-i-init : goal.loop-i-init
loop-i-init c = record { copied = c.requires; rest = fits-empty c.args.target.now c.args.journal.now.entries c.requires }
