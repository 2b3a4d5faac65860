-- A delivery, one subscription further: what the others that are left do makes up the whole.
use Rattle.std.proofs.Common.{◌≡◌, ℕ, ◌+◌, ◌<◌, List, ◌∷◌, ◌++◌, length, get_or, drop, sym, ap, ◌∙◌, append_assoc, arith}
use Rattle.std.proofs.lemmas.List.{drop_more}
use Rattle.bus_words.specs.Bus.{Pipe, Subscription, Sending, deliver, reached, missed, offered, offer_of, with_pipe}
use Rattle.bus_words.specs.Pipes.{counted_by, misses_by, is_queued}
use Rattle.bus_words.specs.declared.miss.Miss.{Miss}
use Rattle.list_pipes.specs.Leaving.{dropped_from, joined_to}
use Rattle.list_messages.specs.Tied.{dropped_by, joined_by}

module _ (sending : Sending) (subs : List Subscription) (i : ℕ) (sub : Subscription) (pipes next : List Pipe) (within : i < length subs)
    (here_is : sub ≡ get_or subs i sub) (is : next ≡ with_pipe (offered sending sub) sub.pipe pipes) where
  rest : drop i subs ≡ sub ∷ drop (i + 1) subs
  rest = drop_more subs i sub within ∙ ap (λ s. s ∷ drop (i + 1) subs) (sym here_is)

  pub pipes_more : (whole : List Pipe) → deliver sending (drop i subs) pipes ≡ whole → deliver sending (drop (i + 1) subs) next ≡ whole
  pipes_more whole at = ap (deliver sending (drop (i + 1) subs)) is ∙ (sym (ap (λ ss. deliver sending ss pipes) rest) ∙ at)

  pub reached_more : (before after whole : ℕ) → after ≡ before + counted_by is_queued (offer_of sending) sub pipes →
      before + reached sending (drop i subs) pipes ≡ whole → after + reached sending (drop (i + 1) subs) next ≡ whole
  reached_more before after whole here at =
      omega (arith, here, at, ap (λ ss. reached sending ss pipes) rest, ap (reached sending (drop (i + 1) subs)) is)

  pub joined_more : (before after whole : ℕ) → after ≡ before + joined_to sending sub pipes →
      before + joined_by sending (drop i subs) pipes ≡ whole → after + joined_by sending (drop (i + 1) subs) next ≡ whole
  joined_more before after whole here at =
      omega (arith, here, at, ap (λ ss. joined_by sending ss pipes) rest, ap (joined_by sending (drop (i + 1) subs)) is)

  pub gone_more : (before after whole : List ℕ) → after ≡ before ++ dropped_from sending sub pipes →
      before ++ dropped_by sending (drop i subs) pipes ≡ whole → after ++ dropped_by sending (drop (i + 1) subs) next ≡ whole
  gone_more before after whole here at =
      ap (λ l. l ++ dropped_by sending (drop (i + 1) subs) next) here
      ∙ (append_assoc before (dropped_from sending sub pipes) (dropped_by sending (drop (i + 1) subs) next)
      ∙ (ap (λ ps. before ++ (dropped_from sending sub pipes ++ dropped_by sending (drop (i + 1) subs) ps)) is
      ∙ (sym (ap (λ ss. before ++ dropped_by sending ss pipes) rest) ∙ at)))

  pub misses_more : (before after whole : List Miss) → after ≡ before ++ misses_by (offer_of sending) sub pipes →
      before ++ missed sending (drop i subs) pipes ≡ whole → after ++ missed sending (drop (i + 1) subs) next ≡ whole
  misses_more before after whole here at =
      ap (λ l. l ++ missed sending (drop (i + 1) subs) next) here
      ∙ (append_assoc before (misses_by (offer_of sending) sub pipes) (missed sending (drop (i + 1) subs) next)
      ∙ (ap (λ ps. before ++ (misses_by (offer_of sending) sub pipes ++ missed sending (drop (i + 1) subs) ps)) is
      ∙ (sym (ap (λ ss. before ++ missed sending ss pipes) rest) ∙ at)))
