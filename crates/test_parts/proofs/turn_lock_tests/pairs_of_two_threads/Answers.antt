use Rattle.std.proofs.Common.{◌≡◌, ◌∙◌, ◌++◌, ◌∷◌, [], ℕ, map, ap, ap₂, sym, rules}
use Rattle.turn_lock.specs.Seats.{view_of}
use Rattle.turn_lock.proofs.Callers.{joined_in_order}
use Rattle.test_parts.proofs.turn_lock_tests.pairs_of_two_threads.Goals as goal

pub close-requires-clause-joined : goal.close-requires-clause-joined
close-requires-clause-joined g c =
    let one = view_of c.add_in_two_threads-one.result.0 in
    let two = view_of c.add_in_two_threads-one.result.1 in
    let new = c.in_ok-lock.ensures.view in
    let first = c.split-one.ensures.apps in
    let second = c.split-two.ensures.apps in
    let is_one : c.unwrap.result ≡ 1 = search rules in
    let is_two : c.unwrap-2.result ≡ 2 = search rules in
    let app_one = c.add_in_two_threads-one.ensures.one.1 in
    let app_two = c.add_in_two_threads-one.ensures.two.1 in
    let ended = c.join-2.ensures.ended ∙ ap (λ l. l ++ (two.app, two.mine) ∷ []) (c.join.ensures.ended ∙ ap (λ l. l ++ (one.app, one.mine) ∷ []) (ap (λ v. v.ended) second ∙ (ap (λ v. v.ended) first ∙ ap (λ v. v.ended) new))) in
    let apps = c.join-2.ensures.apps ∙ (c.join.ensures.apps ∙ (ap (λ v. v.apps) second ∙ ap (λ l. l ++ c.unwrap-2.result ∷ []) (ap (λ v. v.apps) first ∙ ap (λ l. l ++ c.unwrap.result ∷ []) (ap (λ v. v.apps) new)))) in
    joined_in_order (view_of c.join-2.new.main) (ap (λ l. map (λ e. e.0) l) ended ∙ (ap₂ (λ (a b : ℕ). a ∷ b ∷ []) (app_one ∙ sym is_one) (app_two ∙ sym is_two) ∙ sym apps))
