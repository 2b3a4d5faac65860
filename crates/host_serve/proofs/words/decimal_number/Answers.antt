use Rattle.std.proofs.Common.{[], ◌∷◌, ap, sym, ◌∙◌}
use Rattle.std.specs.Result.{result_ok}
use Rattle.std.proofs.lemmas.Bool.Decides.{Decides-eqb}
use Rattle.std.proofs.lemmas.Slice.Eq.{starts_is}
use Rattle.script_words.specs.Numbers.{number_of}
use Rattle.host_serve.proofs.Numbers.{decimal-read, found, hexadecimal-none}
use Rattle.host_serve.proofs.words.decimal_number.Goals as goal

pub returns-then-starts_with : goal.returns-then-starts_with
returns-then-starts_with c =
    let word = c.args.word.now in
    sym (hexadecimal-none word ((starts_is Decides-eqb word (48 ∷ 120 ∷ []) c.starts_with.result c.starts_with.ensures.value).0 c.if-starts_with.true))

pub returns : goal.returns
returns c =
    let word = c.args.word.now in
    c.ok.ensures.value ∙ ap result_ok (sym (found c.number.result (number_of word) c.number.ensures))
    ∙ decimal-read word (sym c.starts_with.ensures.value ∙ c.if-starts_with.false)
