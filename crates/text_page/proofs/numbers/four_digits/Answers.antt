use Rattle.std.proofs.Common.{◌≡◌, ◌/◌, ◌%◌, arith}
use Rattle.text_page.proofs.numbers.four_digits.Goals as goal

pub returns : goal.returns
returns c =
    let n = c.args.number in
    let first : n / 100 / 10 ≡ n / 1000 = omega arith in
    let third : n % 100 / 10 ≡ n / 10 % 10 = omega arith in
    let fourth : n % 100 % 10 ≡ n % 10 = omega arith in
    rw (first, third, fourth)
