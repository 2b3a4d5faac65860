-- An application of which a history has no entry has no pipe and no buffer, so that an empty bag is its bag.
use Rattle.std.proofs.Common.{◌≡◌, ℕ, zero, suc, ◌+◌, ◌-◌, ◌≤◌, ◌==◌, ◌&&◌, ◌||◌, not, Bool, true, false, cond, true≢false, eq-eqb, List, [], ◌∷◌, ◌++◌, length, filter, find, count_by, replicate, slice_index_or, slice_set, Option, None, is_some, refl, ap, ap₂, sym, ◌∙◌, arith}
use Rattle.std.specs.List.{All}
use Rattle.std.specs.Option.{option_map}
use Rattle.std.proofs.lemmas.List.{get_or-set_other}
use Rattle.std.proofs.lemmas.List.Elements.{All-head, All-tail}
use Rattle.std.proofs.lemmas.List.Sums.{sum_by-cons}
use Rattle.fsw_base.specs.Limits.{Limits}
use Rattle.lend_block.specs.Loan.{LentBytes}
use Rattle.buf_desc.specs.Block.{Unsent}
use Rattle.buf_desc.specs.Held.{Holding, view_at}
use Rattle.bus_words.specs.declared.history.Call.{Call}
use Rattle.bus_words.specs.declared.history.Entry.{Entry}
use Rattle.bus_words.specs.Bus.{Pipe, Buffer, Subscription, State, Sending, opening, owns, unsent_of, with_pipe, with_bits, after_receive, offered, deliver, route}
use Rattle.bus_words.specs.Machine.{state_from, step}
use Rattle.bus_words.proofs.Steps.{after_step}
use Rattle.bus_messages.specs.Bag.{Shape, shape_of, last_view}
use Rattle.bus_messages.specs.Words.{desc_of, size_for}
use Rattle.sb_calls.specs.Bags.{HasBag, loans_of, descs_of}
use Rattle.sb_calls.specs.Core.{Core, state_of, apps_of}
use Rattle.bus_words.specs.Runs.{own_entries}

-- Pipes of others. --

-- no pipe is the application's
abbrev AllForeign : ℕ → List Pipe → Type 0
AllForeign app [] = Unit {0}
AllForeign app (p ∷ pipes) = ((p.owner == app) ≡ false) × AllForeign app pipes

foreign-push : (app : ℕ) (pipes : List Pipe) (p : Pipe) → AllForeign app pipes → (p.owner == app) ≡ false → AllForeign app (pipes ++ p ∷ [])
foreign-push app [] p foreign other = (other, tt)
foreign-push app (x ∷ pipes) p foreign other = (foreign.0, foreign-push app pipes p foreign.1 other)

foreign-with_pipe : (app : ℕ) (change : Pipe → Pipe) → ((p : Pipe) → (change p).owner ≡ p.owner) → (number : ℕ) (pipes : List Pipe) → AllForeign app pipes → AllForeign app (with_pipe change number pipes)
foreign-with_pipe app change keeps number [] foreign = tt
foreign-with_pipe app change keeps number (p ∷ pipes) foreign = (by (p.number == number), foreign-with_pipe app change keeps number pipes foreign.1)
  where
    by : (b : Bool) → ((cond {A = Pipe} b (change p) p).owner == app) ≡ false
    by true = ap (λ (n : ℕ). n == app) (keeps p) ∙ foreign.0
    by false = foreign.0

foreign-filter : (app : ℕ) (keep : Pipe → Bool) (pipes : List Pipe) → AllForeign app pipes → AllForeign app (filter keep pipes)
foreign-filter app keep [] foreign = tt
foreign-filter app keep (p ∷ pipes) foreign = by (keep p) (foreign-filter app keep pipes foreign.1)
  where
    by : (b : Bool) → AllForeign app (filter keep pipes) → AllForeign app (cond {A = List Pipe} b (p ∷ filter keep pipes) (filter keep pipes))
    by true rest = (foreign.0, rest)
    by false rest = rest

owner-offered : (sending : Sending) (sub : Subscription) (p : Pipe) → (offered sending sub p).owner ≡ p.owner
owner-offered sending sub p = refl

foreign-deliver : (app : ℕ) (sending : Sending) (subs : List Subscription) (pipes : List Pipe) → AllForeign app pipes → AllForeign app (deliver sending subs pipes)
foreign-deliver app sending [] pipes foreign = foreign
foreign-deliver app sending (sub ∷ subs) pipes foreign =
    foreign-deliver app sending subs (with_pipe (offered sending sub) sub.pipe pipes) (foreign-with_pipe app (offered sending sub) (owner-offered sending sub) sub.pipe pipes foreign)

-- One call of another. --

record IsUnknown (app : ℕ) (s : State) : Type 0 where
  foreign : AllForeign app s.pipes
  unsent : unsent_of s.unsent app ≡ []

unknown-step : (limits : Limits) (history : List Entry) (s : State) (who app : ℕ) (call : Call) → 1 ≤ who → 1 ≤ app → (who == app) ≡ false → IsUnknown app s → IsUnknown app ((step limits history s who call).1)
unknown-step limits history s who app call some first differ h =
    let apart : app - 1 ≡ who - 1 → ⊥ = λ same. true≢false (sym (eq-eqb who app (omega (arith, same, some, first))) ∙ differ) in
    let other : (new : List Buffer) → unsent_of (slice_set s.unsent (who - 1) new) app ≡ [] = λ new. get_or-set_other s.unsent (who - 1) (app - 1) new [] apart ∙ h.unsent in
    after_step (IsUnknown app) limits history s who call (record {
      same = h;
      creates = λ depth name none. record { foreign = foreign-push app s.pipes _ h.foreign differ; unsent = h.unsent };
      subscribes = λ id pipe limit scope none new. record { foreign = h.foreign; unsent = h.unsent };
      sends = λ sending id who number room. record { foreign = foreign-deliver app sending (route s.subscriptions id) s.pipes h.foreign; unsent = h.unsent };
      receives = λ pipe. record { foreign = foreign-with_pipe app after_receive (λ p. refl) pipe s.pipes h.foreign; unsent = h.unsent };
      deletes = λ pipe none. record { foreign = foreign-filter app (λ p. not (p.number == pipe)) s.pipes h.foreign; unsent = h.unsent };
      sets = λ pipe bits none. record { foreign = foreign-with_pipe app (with_bits bits) (λ p. refl) pipe s.pipes h.foreign; unsent = h.unsent };
      unsubscribes = λ id pipe none. record { foreign = h.foreign; unsent = h.unsent };
      stands = λ pipe standing going. record { foreign = foreign-with_pipe app after_receive (λ p. refl) pipe s.pipes h.foreign; unsent = h.unsent };
      ends = record { foreign = foreign-filter app (λ p. not (p.owner == who)) s.pipes h.foreign; unsent = other [] };
      pools = λ next follows. record { foreign = h.foreign; unsent = h.unsent };
      allocates = λ size none. record { foreign = h.foreign; unsent = other _ };
      leaves = λ buf has. record { foreign = h.foreign; unsent = other _ };
      records = λ t desk statistics is. record { foreign = is.foreign; unsent = is.unsent };
      passes = λ sending id who has asked. record { foreign = foreign-deliver app sending (route s.subscriptions id) s.pipes h.foreign; unsent = other _ };
    })

-- Many calls of others. --

unknown-from : (limits : Limits) (history : List Entry) (s : State) (app : ℕ) (es : List Entry) → 1 ≤ app → All (λ (e : Entry). 1 ≤ e.app) es → own_entries app es ≡ [] → IsUnknown app s →
    IsUnknown app (state_from limits history s es)
unknown-from limits history s app [] first callers none h = h
unknown-from limits history s app (e ∷ es) first callers none h =
    let from_one : Entry → Type 0 = λ x. 1 ≤ x.app in
    let parts = apart (e.app == app) refl none in
    unknown-from limits (history ++ e ∷ []) ((step limits history s e.app e.call).1) app es first (All-tail from_one e es callers) parts.1
    (unknown-step limits history s e.app app e.call (All-head from_one e es callers) first parts.0 h)
  where
    apart : (b : Bool) → (e.app == app) ≡ b → cond {A = List Entry} b (e ∷ own_entries app es) (own_entries app es) ≡ [] → ((e.app == app) ≡ false) × (own_entries app es ≡ [])
    apart true is never = absurd (cc (never))
    apart false is none = (is, none)

no-buffers : (n i : ℕ) → slice_index_or (replicate {A = List Buffer} n []) i [] ≡ []
no-buffers zero i = refl
no-buffers (suc n) zero = refl
no-buffers (suc n) (suc i) = no-buffers n i

unknown-after : (core : Core) (app : ℕ) → 1 ≤ app → All (λ (e : Entry). 1 ≤ e.app) core.log.entries → own_entries app core.log.entries ≡ [] → IsUnknown app (state_of core)
unknown-after core app first callers none =
    unknown-from core.limits [] (opening core.limits (apps_of core)) app core.log.entries first callers none
    (record { foreign = tt; unsent = no-buffers (apps_of core) (app - 1) })

-- Nothing due. --

and-no : (a : Bool) → (a && false) ≡ false
and-no true = refl
and-no false = refl

owns-none : (app n : ℕ) (pipes : List Pipe) → AllForeign app pipes → owns pipes app n ≡ false
owns-none app n [] foreign = refl
owns-none app n (p ∷ pipes) foreign =
    ap (λ b. ((p.number == n) && b) || owns pipes app n) foreign.0
    ∙ ap (λ b. b || owns pipes app n) (and-no (p.number == n))
    ∙ owns-none app n pipes foreign.1

count-none : (app : ℕ) (pipes : List Pipe) → AllForeign app pipes → count_by (λ (p : Pipe). (p.owner == app) && is_some p.last) pipes ≡ 0
count-none app [] foreign = refl
count-none app (p ∷ pipes) foreign =
    sum_by-cons (λ (q : Pipe). cond {A = ℕ} ((q.owner == app) && is_some q.last) 1 0) p pipes
    ∙ ap₂ (λ (m n : ℕ). m + n) (ap (λ b. cond {A = ℕ} (b && is_some p.last) 1 0) foreign.0) (count-none app pipes foreign.1)

abbrev the_shape : ℕ → ℕ → ℕ → Shape
the_shape desc size asked = record { desc = desc; size = size; asked = asked }

pub empty_bag : (core : Core) (app : ℕ) (bag : Holding LentBytes) → 1 ≤ app → All (λ (e : Entry). 1 ≤ e.app) core.log.entries → own_entries app core.log.entries ≡ [] →
    bag.views ≡ [] → bag.buffers ≡ [] → core.limits.pipes ≤ bag.view_room → HasBag core app bag
empty_bag core app bag first callers none no_views no_blocks room =
    let s = state_of core in
    let h = unknown-after core app first callers none in
    record {
      views = record {
        seen = λ pipe.
            ap (λ (views : List (ℕ × LentBytes)). view_at (record bag { views = views }) pipe) no_views
            ∙ sym (ap (λ b. cond {A = Option LentBytes} b (last_view s.pipes (loans_of core) pipe) None) (owns-none app pipe s.pipes h.foreign));
        counted = ap (λ (views : List (ℕ × LentBytes)). length views) no_views ∙ sym (count-none app s.pipes h.foreign);
        room = room;
      };
      buffers = record {
        known = first;
        due = λ number.
            ap (λ (blocks : List Unsent). option_map shape_of (find (λ (b : Unsent). b.number == number) blocks)) no_blocks
            ∙ ap (λ (bs : List Buffer). option_map (λ (b : Buffer). the_shape (desc_of (descs_of core) number) (size_for core.limits.sizes b.size) b.size) (find (λ (b : Buffer). b.number == number) bs)) (sym h.unsent);
      };
    }
