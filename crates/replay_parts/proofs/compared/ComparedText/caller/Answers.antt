use Rattle.std.proofs.Common.{◌≡◌, ℕ, ◌≤◌, [], ◌∷◌, ◌++◌, decimal, rules, arith}
use Rattle.run_check.specs.Judged.{Begins, entry_head}
use Rattle.run_check.proofs.Texts.{same_heads}
use Rattle.replay_parts.proofs.Heads.{head_from, head_letter, head_to, told_of}
use Rattle.replay_parts.proofs.compared.ComparedText.caller.Goals as goal

pub returns-in_err-text-2-clause-none : goal.returns-in_err-text-2-clause-none
returns-in_err-text-2-clause-none c = λ none app one few begins.
    c.in_err-text-2.ensures (head_letter c.args.self.now.rest c.in_ok-text.text.now c.args.number app (search rules) begins)

pub returns-clause-none : goal.returns-clause-none
returns-clause-none c = λ none app one few begins.
    c.app_in.ensures.none none app one few
    (head_to c.args.self.now.rest c.in_ok-text.text.now c.in_ok-text-2.text.now c.args.number app (search rules) (search rules) begins)

pub returns-clause-some : goal.returns-clause-some
returns-clause-some c =
    told_of c.app_in.result (λ app. (app ≤ c.args.apps) × Begins c.in_ok-text-2.text.now (decimal app ++ 32 ∷ []))
    (λ app. (app ≤ c.args.apps) × Begins c.args.self.now.rest (entry_head c.args.number app))
    (λ app known. (known.0, head_from c.args.self.now.rest c.in_ok-text.text.now c.in_ok-text-2.text.now c.args.number app (search rules) (search rules) known.1))
    c.app_in.ensures.some

pub returns-clause-only : goal.returns-clause-only
returns-clause-only c =
    told_of c.app_in.result (λ app. (app ≤ c.args.apps) × Begins c.in_ok-text-2.text.now (decimal app ++ 32 ∷ []))
    (λ app. (other : ℕ) → other ≤ c.args.apps → Begins c.args.self.now.rest (entry_head c.args.number other) → other ≡ app)
    (λ app known other few begins.
    same_heads c.args.number other app c.args.self.now.rest (omega (arith, few)) (omega (arith, known.0)) begins
    (head_from c.args.self.now.rest c.in_ok-text.text.now c.in_ok-text-2.text.now c.args.number app (search rules) (search rules) known.1))
    c.app_in.ensures.some
