use Rattle.std.proofs.Common.{◌≡◌, ℕ, List, length, take, ap, sym, ◌∙◌}
use Rattle.std.specs.Option.{option_map_or}
use Rattle.ccsds_msg.specs.Message.{with_count}
use Rattle.buf_desc.specs.Block.{Unsent as UnsentBlock, Sealed as SealedBlock}
use Rattle.buf_desc.proofs.Copies.{length-counted}
use Rattle.buf_desc.proofs.desk.sealed_copy.Goals as goal

pub returns : goal.returns
returns c =
    let bytes = c.args.bytes.now in
    let message = option_map_or (with_count bytes) c.args.count bytes in
    let space = c.into_space.result.now in
    let sent : ℕ → List ℕ → SealedBlock = λ size written. record { number = c.args.number; asked = length bytes; size = size; bytes = written; uses = 0; loan = c.seal.result.loan; views = 0 } in
    let is : c.with_its_count-message.result.bytes ≡ message =
    ap (λ (b : UnsentBlock). b.bytes) c.with_its_count-message.ensures ∙ ap (λ (b : UnsentBlock). option_map_or (with_count b.bytes) c.args.count b.bytes) c.with_copy_of-copy.ensures in
    let size : length space ≡ length c.args.space.now =
    c.into_space.ensures.size ∙ (ap (λ (b : UnsentBlock). b.size) c.with_its_count-message.ensures ∙ (ap (λ (b : UnsentBlock). b.size) c.with_copy_of-copy.ensures ∙ ap (λ (b : UnsentBlock). b.size) c.new.ensures)) in
    let long : length c.with_its_count-message.result.bytes ≡ length bytes = ap length is ∙ length-counted bytes c.args.count c.requires.header in
    let written : take (length bytes) space ≡ message = ap (λ n. take n space) (sym long) ∙ (c.into_space.ensures.bytes ∙ is) in
    c.seal.ensures ∙ (ap (λ n. sent n (take (length bytes) space)) size ∙ ap (sent (length c.args.space.now)) written)
