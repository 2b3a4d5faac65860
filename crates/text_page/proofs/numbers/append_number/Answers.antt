use Rattle.std.proofs.Common.{◌≡◌, ◌/◌, ◌%◌, ◌++◌, length, decimal, ap, sym, ◌∙◌, arith, append_assoc, length-append}
use Rattle.std.proofs.lemmas.Fmt.{length-decimal-le}
use Rattle.text_page.proofs.Digits.{last_four, decimal_long, decimal_longest}
use Rattle.text_page.proofs.numbers.append_number.Goals as goal

pub append-requires : goal.append-requires
append-requires c =
    let front = ap length c.append_short-then-number-lt100000000.ensures.text ∙ length-append c.args.page.now (decimal (c.args.number / 10000)) in
    let short = length-decimal-le 4 (c.args.number / 10000) (omega arith) (omega arith) (omega arith) in
    let four : length c.four_digits.result ≡ 4 = ap length c.four_digits.ensures in
    omega (arith, front, short, four, c.requires)

pub append-requires-else-number-lt100000000 : goal.append-requires-else-number-lt100000000
append-requires-else-number-lt100000000 c =
    let bound = c.ranges.number.fits in
    let front = ap length c.append_short-else-number-lt100000000.ensures.text ∙ length-append c.args.page.now (decimal (c.args.number / 100000000)) in
    let short = length-decimal-le 2 (c.args.number / 100000000) (omega arith) (omega arith) (omega arith) in
    let four : length c.four_digits-else-number-lt100000000.result ≡ 4 = ap length c.four_digits-else-number-lt100000000.ensures in
    omega (arith, front, short, four, c.requires)

pub append-requires-else-number-lt100000000-2 : goal.append-requires-else-number-lt100000000-2
append-requires-else-number-lt100000000-2 c =
    let bound = c.ranges.number.fits in
    let before = c.append_short-else-number-lt100000000.new.page in
    let front = ap length c.append_short-else-number-lt100000000.ensures.text ∙ length-append c.args.page.now (decimal (c.args.number / 100000000)) in
    let short = length-decimal-le 2 (c.args.number / 100000000) (omega arith) (omega arith) (omega arith) in
    let four : length c.four_digits-else-number-lt100000000.result ≡ 4 = ap length c.four_digits-else-number-lt100000000.ensures in
    let more = ap length c.append-else-number-lt100000000.ensures ∙ length-append before c.four_digits-else-number-lt100000000.result in
    let last : length c.four_digits-else-number-lt100000000-2.result ≡ 4 = ap length c.four_digits-else-number-lt100000000-2.ensures in
    omega (arith, front, short, four, more, last, c.requires)

pub returns-then-number-lt100000000 : goal.returns-then-number-lt100000000
returns-then-number-lt100000000 c =
    let n = c.args.number in
    let page = c.args.page.now in
    let front = decimal (n / 10000) in
    c.append.ensures ∙ ap (λ l. l ++ c.four_digits.result) c.append_short-then-number-lt100000000.ensures.text ∙ append_assoc page front c.four_digits.result
    ∙ ap (λ l. page ++ (front ++ l)) c.four_digits.ensures ∙ ap (λ l. page ++ l) (sym (decimal_long n (omega arith) (omega arith)))

pub returns-else-number-lt100000000 : goal.returns-else-number-lt100000000
returns-else-number-lt100000000 c =
    let bound = c.ranges.number.fits in
    let n = c.args.number in
    let page = c.args.page.now in
    let front = decimal (n / 100000000) in
    let four = c.four_digits-else-number-lt100000000.result in
    let last = c.four_digits-else-number-lt100000000-2.result in
    let some = c.append-else-number-lt100000000.ensures ∙ ap (λ l. l ++ four) c.append_short-else-number-lt100000000.ensures.text ∙ append_assoc page front four in
    let digits =
    ap (λ l. (front ++ l) ++ last) c.four_digits-else-number-lt100000000.ensures
    ∙ ap (λ l. (front ++ last_four (n / 10000 % 10000)) ++ l) c.four_digits-else-number-lt100000000-2.ensures
    ∙ sym (decimal_longest n (omega arith) (omega arith)) in
    c.append-else-number-lt100000000-2.ensures ∙ ap (λ l. l ++ last) some ∙ append_assoc page (front ++ four) last ∙ ap (λ l. page ++ l) digits
