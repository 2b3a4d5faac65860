use Rattle.std.proofs.Common.{◌<◌, ◌∷◌, ◌++◌, List, length, ap, sym, ◌∙◌, append_assoc}
use Rattle.text_page.proofs.PieceTexts.{◌▸◌, puts_as}
use Rattle.run_report.specs.ReceiptText.{application_text, receipt_text}
use Rattle.run_check.specs.Merged.{merged, receipts_in}
use Rattle.run_check.specs.Places.{Made}
use Rattle.report_check.proofs.MergedTexts.{it_fails, it_holds, merged-bus, merged-tables, put_more, put_rest}
use Rattle.report_check.proofs.merged.put_merged.Goals as goal

pub loop-made-preserved-then-comes_first : goal.loop-made-preserved-then-comes_first
loop-made-preserved-then-comes_first g c =
    let app = c.args.app in
    let so_far = c.loop-made.invariant in
    let bus = c.loop-made.of_bus.now in
    let tables = c.loop-made.of_tables.now in
    let m = c.index-of_bus-0.result in
    let t = c.index-of_tables-0.result in
    let left = it_holds ((0 < length bus) × (0 < length tables)) c.are_both_left.result c.loop-made-test.true c.are_both_left.ensures in
    let before = it_holds (m.place < t.place) c.comes_first.result c.if-comes_first.true c.comes_first.ensures in
    let next = merged-bus bus tables m t left.0 left.1 c.index-of_bus-0.is c.index-of_tables-0.is before in
    record {
      put = so_far.put ++ receipt_text app m.receipt;
      puts = so_far.puts ▸ c.put_made.ensures;
      whole = put_more app (merged c.args.bus.now c.args.tables.now) (merged bus tables) (merged c.behind_first-of_bus.result.now tables) m.receipt so_far.put so_far.whole
          (next ∙ ap (λ (rest : List Made). m.receipt ∷ merged rest tables) (sym c.behind_first-of_bus.ensures));
    }

pub loop-made-preserved : goal.loop-made-preserved
loop-made-preserved g c =
    let app = c.args.app in
    let so_far = c.loop-made.invariant in
    let bus = c.loop-made.of_bus.now in
    let tables = c.loop-made.of_tables.now in
    let m = c.index-of_bus-0.result in
    let t = c.index-of_tables-0.result in
    let left = it_holds ((0 < length bus) × (0 < length tables)) c.are_both_left.result c.loop-made-test.true c.are_both_left.ensures in
    let behind = it_fails (m.place < t.place) c.comes_first.result c.if-comes_first.false c.comes_first.ensures in
    let next = merged-tables bus tables m t left.0 left.1 c.index-of_bus-0.is c.index-of_tables-0.is behind in
    record {
      put = so_far.put ++ receipt_text app t.receipt;
      puts = so_far.puts ▸ c.put_made-else-comes_first.ensures;
      whole = put_more app (merged c.args.bus.now c.args.tables.now) (merged bus tables) (merged bus c.behind_first-of_tables.result.now) t.receipt so_far.put so_far.whole
          (next ∙ ap (λ (rest : List Made). t.receipt ∷ merged bus rest) (sym c.behind_first-of_tables.ensures));
    }

pub returns : goal.returns
returns g c =
    let app = c.args.app in
    let so_far = c.loop-made.invariant in
    let bus = c.loop-made.of_bus.now in
    let tables = c.loop-made.of_tables.now in
    let none = it_fails ((0 < length bus) × (0 < length tables)) c.are_both_left.result c.loop-made-test.false c.are_both_left.ensures in
    let rest = append_assoc so_far.put (application_text app (receipts_in bus)) (application_text app (receipts_in tables)) in
    puts_as _ (rest ∙ ap (λ l. so_far.put ++ l) (put_rest app bus tables none) ∙ sym so_far.whole) (so_far.puts ▸ c.put_all.ensures ▸ c.put_all-2.ensures)
