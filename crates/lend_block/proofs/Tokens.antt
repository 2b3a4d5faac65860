-- No part of a loan is there twice. Assumes `Logic`.
use Rattle.std.proofs.Common.{◌≢◌, ℕ, ◌+◌, ◌-◌, ◌^◌, ◌<◌, ◌≤◌, [], ◌∷◌, refl, arith}
use mathlib.Core.Logic.{dite}
use native.Mathlib.Decide.{ℕ_discrete}
use seplogic.Ra.Ura.{Ura}
use base.Fml.{flft}
use base.Fraction.{full_share}
use base.Logic.{SProp, ent, sep, emp, via, never_e}
use contract.Monad.{fact, fact_i}
use types.Kit.{‵, raw, ◌⊛◌, ◌$◌, ◌∵◌, !, qed, by, move, keep, split, use0, use1, use2, fpick, rewrite, updating, now, done}
use types.Logic.{Logic, sem}
use types.Tokens.{lft_end}
use Rattle.left_right.proofs.PartSteps.{tokens_cut, tokens_glue, tokens_whole}
use Rattle.left_right.specs.Parted.{tokens}

module _ {M : Type 1} {𝓤 : Ura M} (𝓛 : Logic 𝓤) (loan : ℕ) where
  open 𝓛 use {H}

  -- beside all parts there is none more: all of them end the loan, and a part says that it has not ended
  pub all_and_more : (k : ℕ) (G : SProp 𝓤) → ent 𝓤 (sep 𝓤 (sem 𝓛 (tokens loan (2 ^ 63))) (sem 𝓛 (tokens loan k))) (H.⇛ G)
  all_and_more k G = qed 𝓛 (‵ (tokens loan (2 ^ 63)) ∷ ‵ (tokens loan k) ∷ []) ∵
      updating ! $ use1 𝓛 (‵ (flft (loan ∷ []) full_share)) (tokens_whole 𝓛 loan) $ lft_end ! tt $
      move ! (1 ∷ []) $ fpick ! (λ e. fpick ! (λ counted. move ! (0 ∷ 1 ∷ []) $
      use2 𝓛 (raw G) (via 𝓤 _ (𝓛.lfts.lft-dead (loan ∷ []) e) (never_e 𝓤 G)) $ now ! $ done !))

  -- so whoever has k parts beside one more has not all of them
  pub not_all : (k : ℕ) → k ≤ 2 ^ 63
      → ent 𝓤 (sep 𝓤 (sem 𝓛 (tokens loan k)) (sem 𝓛 (tokens loan 1))) (H.⇛ (sep 𝓤 (fact 𝓤 (k < 2 ^ 63)) (sep 𝓤 (sem 𝓛 (tokens loan k)) (sem 𝓛 (tokens loan 1)))))
  not_all k le =
      let fewer = sep 𝓤 (fact 𝓤 (k < 2 ^ 63)) (sep 𝓤 (sem 𝓛 (tokens loan k)) (sem 𝓛 (tokens loan 1))) in
      dite (ℕ_discrete k (2 ^ 63))
      (λ all. qed 𝓛 (‵ (tokens loan k) ∷ ‵ (tokens loan 1) ∷ []) ∵ rewrite ! 0 (λ (j : ℕ). ‵ (tokens loan j)) all refl $ by ! (all_and_more 1 fewer))
      (λ other. qed 𝓛 (‵ (tokens loan k) ∷ ‵ (tokens loan 1) ∷ []) ∵ updating ! $ now ! $ use0 𝓛 (raw (fact 𝓤 (k < 2 ^ 63))) (fact_i 𝓤 (k < 2 ^ 63) (emp 𝓤) (omega arith)) $ done !)

  -- two that each have more than half of the parts are not both there
  pub two_halves_and_more : (i j : ℕ) (G : SProp 𝓤) → 2 ^ 62 < i → i ≤ 2 ^ 63 → 2 ^ 62 < j → j ≤ 2 ^ 63 → ent 𝓤 (sep 𝓤 (sem 𝓛 (tokens loan i)) (sem 𝓛 (tokens loan j))) (H.⇛ G)
  two_halves_and_more i j G most_i all_i most_j all_j =
      let half = 2 ^ 62 in
      qed 𝓛 (‵ (tokens loan i) ∷ ‵ (tokens loan j) ∷ []) ∵
      use1 𝓛 (‵ (tokens loan half) ⊛ ‵ (tokens loan (i - half))) (tokens_cut 𝓛 loan i half (i - half) (omega arith) (omega arith) (omega arith) all_i) $ split ! $ move ! (2 ∷ []) $
      use1 𝓛 (‵ (tokens loan half) ⊛ ‵ (tokens loan (j - half))) (tokens_cut 𝓛 loan j half (j - half) (omega arith) (omega arith) (omega arith) all_j) $ split ! $ keep ! (0 ∷ 2 ∷ 3 ∷ []) $
      use2 𝓛 (‵ (tokens loan (half + half))) (tokens_glue 𝓛 loan half half (omega arith) (omega arith)) $
      rewrite ! 0 (λ (k : ℕ). ‵ (tokens loan k)) (omega arith) refl $
      by ! (all_and_more (i - half) G)

-- so they are of two loans
module _ {M : Type 1} {𝓤 : Ura M} (𝓛 : Logic 𝓤) where
  open 𝓛 use {H}

  pub two_loans : (a b i j : ℕ) → 2 ^ 62 < i → i ≤ 2 ^ 63 → 2 ^ 62 < j → j ≤ 2 ^ 63
      → ent 𝓤 (sep 𝓤 (sem 𝓛 (tokens a i)) (sem 𝓛 (tokens b j))) (H.⇛ (sep 𝓤 (fact 𝓤 (a ≢ b)) (sep 𝓤 (sem 𝓛 (tokens a i)) (sem 𝓛 (tokens b j)))))
  two_loans a b i j most_i all_i most_j all_j =
      let apart = sep 𝓤 (fact 𝓤 (a ≢ b)) (sep 𝓤 (sem 𝓛 (tokens a i)) (sem 𝓛 (tokens b j))) in
      dite (ℕ_discrete a b)
      (λ same. qed 𝓛 (‵ (tokens a i) ∷ ‵ (tokens b j) ∷ []) ∵ rewrite ! 0 (λ (loan : ℕ). ‵ (tokens loan i)) same refl $
      by ! (two_halves_and_more 𝓛 b i j apart most_i all_i most_j all_j))
      (λ other. qed 𝓛 (‵ (tokens a i) ∷ ‵ (tokens b j) ∷ []) ∵ updating ! $ now ! $ use0 𝓛 (raw (fact 𝓤 (a ≢ b))) (fact_i 𝓤 (a ≢ b) (emp 𝓤) other) $ done !)
