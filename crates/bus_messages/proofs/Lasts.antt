-- What calls leave of the views that are due to applications which didn't make them.
use Rattle.std.proofs.Common.{◌≡◌, ℕ, ◌+◌, ◌≤◌, Bool, true, false, ◌&&◌, ◌||◌, cond, eqb, List, [], ◌∷◌, find, Option, Some, None, is_some, refl, ap, sym, ◌∙◌, subst}
use Rattle.std.specs.Option.{option_map, option_map_or, option_and_then}
use Rattle.std.proofs.lemmas.List.Sums.{sum_by-cons}
use Rattle.lend_block.specs.Loan.{LentBytes}
use Rattle.buf_desc.specs.Held.{Holding}
use Rattle.bus_words.specs.Bus.{Item, Pipe, Subscription, Sending, pipe_at, owns, with_pipe, offered, deliver}
use Rattle.bus_routes.specs.Tables.{Room}
use Rattle.bus_messages.specs.Store.{Store, LastLoan}
use Rattle.bus_words.specs.Pipes.{last_on}
use Rattle.bus_messages.specs.Words.{loan_of}
use Rattle.bus_messages.specs.Bag.{HoldsViews, view_due, views_due}

-- a change of a pipe that keeps its number, its owner and its last message
pub record Keeping (change : Pipe → Pipe) : Type 0 where
  pub number : (pipe : Pipe) → (change pipe).number ≡ pipe.number
  pub owner : (pipe : Pipe) → (change pipe).owner ≡ pipe.owner
  pub last : (pipe : Pipe) → (change pipe).last ≡ pipe.last

keeps_offer : (sending : Sending) (sub : Subscription) → Keeping (offered sending sub)
keeps_offer sending sub = record { number = λ pipe. refl; owner = λ pipe. refl; last = λ pipe. refl }

module _ (change : Pipe → Pipe) (keeps : Keeping change) (number : ℕ) where
  owns-kept : (pipes : List Pipe) (app other : ℕ) → owns (with_pipe change number pipes) app other ≡ owns pipes app other
  owns-kept [] app other = refl
  owns-kept (pipe ∷ pipes) app other =
      ap (λ b. b || owns (with_pipe change number pipes) app other) (by_test (eqb pipe.number number))
      ∙ ap (λ b. (eqb pipe.number other && eqb pipe.owner app) || b) (owns-kept pipes app other)
    where
      by_test : (b : Bool) → (eqb (cond {A = Pipe} b (change pipe) pipe).number other && eqb (cond {A = Pipe} b (change pipe) pipe).owner app) ≡ (eqb pipe.number other && eqb pipe.owner app)
      by_test true = ap (λ n. eqb n other && eqb (change pipe).owner app) (keeps.number pipe) ∙ ap (λ n. eqb pipe.number other && eqb n app) (keeps.owner pipe)
      by_test false = refl

  last_of-kept : (pipes : List Pipe) (other : ℕ) → last_on (with_pipe change number pipes) other ≡ last_on pipes other
  last_of-kept [] other = refl
  last_of-kept (pipe ∷ pipes) other =
      ap (λ n. option_and_then (λ (p : Pipe). p.last) (cond {A = Option Pipe} (eqb n other) (Some next) (pipe_at (with_pipe change number pipes) other))) (same_number (eqb pipe.number number))
      ∙ by_test (eqb pipe.number other) (last_of-kept pipes other)
    where
      next : Pipe
      next = cond {A = Pipe} (eqb pipe.number number) (change pipe) pipe

      same_number : (b : Bool) → (cond {A = Pipe} b (change pipe) pipe).number ≡ pipe.number
      same_number true = keeps.number pipe
      same_number false = refl

      same_last : (b : Bool) → (cond {A = Pipe} b (change pipe) pipe).last ≡ pipe.last
      same_last true = keeps.last pipe
      same_last false = refl

      by_test : (b : Bool) → last_on (with_pipe change number pipes) other ≡ last_on pipes other →
          option_and_then (λ (p : Pipe). p.last) (cond {A = Option Pipe} b (Some next) (pipe_at (with_pipe change number pipes) other))
          ≡ option_and_then (λ (p : Pipe). p.last) (cond {A = Option Pipe} b (Some pipe) (pipe_at pipes other))
      by_test true ih = same_last (eqb pipe.number number)
      by_test false ih = ih

  views-kept : (pipes : List Pipe) (app : ℕ) → views_due (with_pipe change number pipes) app ≡ views_due pipes app
  views-kept [] app = refl
  views-kept (pipe ∷ pipes) app =
      sum_by-cons (λ (p : Pipe). cond {A = ℕ} (eqb p.owner app && is_some p.last) 1 0) (cond {A = Pipe} (eqb pipe.number number) (change pipe) pipe) (with_pipe change number pipes)
      ∙ ap (λ n. n + views_due (with_pipe change number pipes) app) (by_test (eqb pipe.number number))
      ∙ ap (λ n. cond {A = ℕ} (eqb pipe.owner app && is_some pipe.last) 1 0 + n) (views-kept pipes app)
      ∙ sym (sum_by-cons (λ (p : Pipe). cond {A = ℕ} (eqb p.owner app && is_some p.last) 1 0) pipe pipes)
    where
      by_test : (b : Bool) → cond {A = ℕ} (eqb (cond {A = Pipe} b (change pipe) pipe).owner app && is_some (cond {A = Pipe} b (change pipe) pipe).last) 1 0 ≡ cond (eqb pipe.owner app && is_some pipe.last) 1 0
      by_test true = ap (λ n. cond {A = ℕ} (eqb n app && is_some (change pipe).last) 1 0) (keeps.owner pipe) ∙ ap (λ l. cond {A = ℕ} (eqb pipe.owner app && is_some l) 1 0) (keeps.last pipe)
      by_test false = refl

-- pipes with the same owners and last messages
pub record AreLike (pipes others : List Pipe) : Type 0 where
  pub owns : (app number : ℕ) → owns others app number ≡ owns pipes app number
  pub last : (number : ℕ) → last_on others number ≡ last_on pipes number
  pub views : (app : ℕ) → views_due others app ≡ views_due pipes app

pub like_kept : (change : Pipe → Pipe) → Keeping change → (number : ℕ) (pipes : List Pipe) → AreLike pipes (with_pipe change number pipes)
like_kept change keeps number pipes = record {
  owns = λ app other. owns-kept change keeps number pipes app other;
  last = last_of-kept change keeps number pipes;
  views = views-kept change keeps number pipes;
}

pub like_delivered : (sending : Sending) (subs : List Subscription) (pipes : List Pipe) → AreLike pipes (deliver sending subs pipes)
like_delivered sending [] pipes = record { owns = λ app number. refl; last = λ number. refl; views = λ app. refl }
like_delivered sending (sub ∷ subs) pipes =
    let one = like_kept (offered sending sub) (keeps_offer sending sub) sub.pipe pipes in
    let rest = like_delivered sending subs (with_pipe (offered sending sub) sub.pipe pipes) in
    record {
      owns = λ app number. rest.owns app number ∙ one.owns app number;
      last = λ number. rest.last number ∙ one.last number;
      views = λ app. rest.views app ∙ one.views app;
    }

-- a bag has what is due of a store's pipes
abbrev pub HasDue : Store → ℕ → Holding LentBytes → Type 0
HasDue store app bag = HoldsViews store.pipes store.loans store.room.pipes app bag

-- and so if the same is due
pub holds_same : (old new : Store) (app : ℕ) (bag : Holding LentBytes) → ((number : ℕ) → view_due new.pipes new.loans app number ≡ view_due old.pipes old.loans app number) → views_due new.pipes app ≡ views_due old.pipes app → new.room ≡ old.room →
    HasDue old app bag → HasDue new app bag
holds_same old new app bag due views room holds = record {
  seen = λ number. holds.seen number ∙ sym (due number);
  counted = holds.counted ∙ sym views;
  room = subst (λ (r : Room). r.pipes ≤ bag.view_room) (sym room) holds.room;
}

pub holds_like : (old new : Store) (app : ℕ) (bag : Holding LentBytes) → AreLike old.pipes new.pipes → new.loans ≡ old.loans → new.room ≡ old.room → HasDue old app bag → HasDue new app bag
holds_like old new app bag like loans room =
    holds_same old new app bag
    (λ number.
    ap (λ b. cond {A = Option LentBytes} b (option_map (λ (i : Item). record { loan = loan_of new.loans number; bytes = i.message }) (last_on new.pipes number)) None) (like.owns app number)
    ∙ ap (λ l. cond {A = Option LentBytes} (owns old.pipes app number) (option_map (λ (i : Item). record { loan = loan_of new.loans number; bytes = i.message }) l) None) (like.last number)
    ∙ ap (λ ls. cond {A = Option LentBytes} (owns old.pipes app number) (option_map (λ (i : Item). record { loan = option_map_or {U = ℕ} (λ (one : LastLoan). one.loan) (find (λ (one : LastLoan). eqb one.pipe number) ls) 0; bytes = i.message }) (last_on old.pipes number)) None) loans)
    (like.views app) room

-- if the pipes stay
pub holds_still : (old new : Store) (app : ℕ) (bag : Holding LentBytes) → new.pipes ≡ old.pipes → new.loans ≡ old.loans → new.room ≡ old.room → HasDue old app bag → HasDue new app bag
holds_still old new app bag pipes loans room =
    holds_like old new app bag (subst (AreLike old.pipes) (sym pipes) (record { owns = λ a n. refl; last = λ n. refl; views = λ a. refl })) loans room
