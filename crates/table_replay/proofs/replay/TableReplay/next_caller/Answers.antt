use Rattle.std.proofs.Common.{◌≡◌, true≢false, rules, ap, sym, ◌∙◌, subst}
use Rattle.tbl_words.specs.Tables.{has_ended}
use Rattle.run_check.specs.Judged.{Begins, entry_head}
use Rattle.table_replay.proofs.replay.TableReplay.next_caller.Goals as goal

pub returns-in_err-app-clause-none : goal.returns-in_err-app-clause-none
returns-in_err-app-clause-none c = λ none app one few going begins.
    c.in_err-app.ensures.none (search rules) app one (search rules)
    (subst (λ n. Begins c.args.text.now.rest (entry_head n app)) (sym c.requires) begins)

pub returns-then-has_ended-clause-none : goal.returns-then-has_ended-clause-none
returns-then-has_ended-clause-none c = λ none app one few going begins.
    let same : app ≡ c.in_ok-app.app =
    c.in_ok-app.ensures.only app (search rules) (subst (λ n. Begins c.args.text.now.rest (entry_head n app)) (sym c.requires) begins) in
    true≢false (sym (search rules) ∙ ap (λ a. has_ended c.args.self.now.state a) (sym same) ∙ going)
