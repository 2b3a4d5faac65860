use Rattle.std.proofs.Common.{◌≡◌, ◌<◌, ◌&&◌, nat_le, false, length, sym, ap, arith}
use Rattle.std.proofs.lemmas.Bool.Decides.{nat_tests}
use Rattle.bus_words.specs.Entries.{call_of, call_bytes}
use Rattle.journal_store.specs.Budgets.{allowance_of}
use Rattle.bus_words.specs.Log.{left_of}
use Rattle.bus_words.proofs.Journals.{length-left_of}
use Rattle.host_report.proofs.mem_audit.has_room.Goals as goal

pub returns-then-get-apps : goal.returns-then-get-apps
returns-then-get-apps c =
    let app = c.args.app in
    let left = left_of c.args.journal.now in
    let beyond : length left < app = omega (arith, length-left_of c.args.journal.now, c.if-get-apps.true, c.apps.ensures, c.get.ensures.value) in
    let unknown : nat_le app (length left) ≡ false = grind (arith, nat_tests) in
    sym (ap (λ b. b && nat_le 1 (allowance_of left app).entries && nat_le (call_bytes (call_of c.args.call.now)) (allowance_of left app).bytes) unknown)
