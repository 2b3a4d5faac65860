use Rattle.std.proofs.Common.{[], ◌++◌, ap, sym, ◌∙◌, arith, rules, append_assoc, append-nil}
use Rattle.std.specs.Slice.Iter.{chunks_rest}
use Rattle.std.proofs.lemmas.Grind.{flat_map-append}
use Rattle.std.proofs.lemmas.List.{nil_from_length}
use Rattle.text_page.specs.Texts.{hex_byte, hex_bytes}
use Rattle.text_page.proofs.PieceTexts.{◌▸◌, puts_as, waits_behind}
use Rattle.text_page.proofs.pieces.put_hex_bytes.Goals as goal

pub loop-piece-init : goal.loop-piece-init
loop-piece-init g c = (search rules, tt, search rules, ([], search rules, waits_behind c.args.sink.now c.args.page.now c.args.page.now [] (sym (append-nil c.args.page.now))))

pub put_hex_piece-requires : goal.put_hex_piece-requires
put_hex_piece-requires g c =
    let steps = c.in-Some.ensures.steps in
    omega (arith, steps.1.1, c.loop-piece.invariant.2)

pub loop-piece-preserved : goal.loop-piece-preserved
loop-piece-preserved g c =
    let steps = c.in-Some.ensures.steps in
    let so_far = c.loop-piece.invariant.3 in
    let before = so_far.0 in
    let piece = c.in-Some.piece.now in
    let text = append_assoc before piece (chunks_rest c.next.new.self) ∙ ap (λ l. before ++ l) (sym steps.1.0) ∙ so_far.1 in
    let put = puts_as (hex_bytes (before ++ piece)) (sym (flat_map-append hex_byte before piece)) (so_far.2 ▸ c.put_hex_piece.ensures) in
    (search rules, tt, steps.0 ∙ c.loop-piece.invariant.2, (before ++ piece, text, put))

pub returns : goal.returns
returns g c =
    let so_far = c.loop-piece.invariant.3 in
    let none = nil_from_length (chunks_rest c.loop-piece.piece-iterator) c.in-None.ensures.steps.1.0 in
    puts_as (hex_bytes c.args.bytes.now) (ap hex_bytes (sym (append-nil so_far.0) ∙ ap (λ l. so_far.0 ++ l) (sym none) ∙ so_far.1)) so_far.2
