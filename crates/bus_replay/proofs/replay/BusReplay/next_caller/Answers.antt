use Rattle.std.proofs.Common.{◌≡◌, rules, ap, sym, ◌∙◌, subst}
use Rattle.bus_words.specs.Bus.{standing_of}
use Rattle.run_check.specs.Judged.{Begins, entry_head}
use Rattle.bus_replay.proofs.Stopping.{ended_is, going_is}
use Rattle.bus_replay.proofs.replay.BusReplay.next_caller.Goals as goal

pub returns-in_err-app-clause-none : goal.returns-in_err-app-clause-none
returns-in_err-app-clause-none c = λ none app one few begins.
    absurd (c.in_err-app.ensures.none (search rules) app one (search rules) (subst (λ n. Begins c.args.text.now.rest (entry_head n app)) (sym c.requires) begins))

pub returns-then-has_ended-clause-none : goal.returns-then-has_ended-clause-none
returns-then-has_ended-clause-none c = λ none app one few begins.
    let same : app ≡ c.in_ok-app.app =
    c.in_ok-app.ensures.only app (search rules) (subst (λ n. Begins c.args.text.now.rest (entry_head n app)) (sym c.requires) begins) in
    ap (λ a. standing_of c.args.self.now.played.whole.bus a) same
    ∙ ended_is (standing_of c.args.self.now.played.whole.bus c.in_ok-app.app) (search rules)

pub returns-clause-some : goal.returns-clause-some
returns-clause-some c = record {
  known = search rules;
  going = going_is (standing_of c.args.self.now.played.whole.bus c.in_ok-app.app) (search rules);
  headed = subst (λ n. Begins c.args.text.now.rest (entry_head n c.in_ok-app.app)) c.requires (search rules);
  only = λ other few begins.
      c.in_ok-app.ensures.only other (search rules) (subst (λ n. Begins c.args.text.now.rest (entry_head n other)) (sym c.requires) begins);
}
