-- A whole visit of a port at the core: what its turn asks at the end, what the port is answered, and that it stays a port.
use Rattle.std.proofs.Common.{◌≡◌, ℕ, ◌≤◌, Bool, false, List, [], ◌∷◌, ◌++◌, length, Option, Some, append-nil, refl, ap, ap₂, sym, ◌∙◌, subst}
use Rattle.std.proofs.lemmas.List.{map_push}
use Rattle.atomic_table.specs.Seated.{TableId}
use Rattle.lend_block.specs.declared.note.Note.{Note}
use Rattle.turn_lock.specs.Views.{entries_of}
use Rattle.turn_lock.specs.Seats.{Known, SeatView, IsIn, view_of, entered_view, left_view}
use Rattle.core_port.specs.Words.{Fixed, Words, Laws}
use Rattle.core_port.specs.Histories.{the_fixed, with_notes, history_of, entry_in, entries_in, core_with}
use Rattle.core_port.specs.Inside.{AreCalled, IsPort, seen_in, mine_in, port_in}
use Rattle.core_port.specs.Ports.{Answers, AnswersLook, look_entries}
use Rattle.core_port.specs.Turns.{Entered, MadeOne}
use Rattle.core_port.specs.declared.history.NotedCall.{NotedCall}
use Rattle.core_port.proofs.Histories.{pairs-push, with_notes-push, called_history, core_again}
use Rattle.core_port.proofs.TurnFinds.{fixed_found, others_called, known_found}

module _ {S N C A L : Type 0} (w : Words S N C A L) (l : Laws w) (s : SeatView Fixed (NotedCall C A)) (app : ℕ) (told : L) (port : IsPort w s app told) (old : S) (e : Entered w (view_of s) old) where
  abbrev v : Known Fixed (NotedCall C A)
  v = view_of s

  -- With an entry. --

  module _ (new : S) (call : C) (answer : A) (d : w.does old new app call answer) where
    abbrev it : N
    it = w.entry app call answer

    abbrev note : Note
    note = (l.adds old new app call answer d).0

    abbrev noted : NotedCall C A
    noted = record { call = w.call it; answer = w.answer it; note = note }

    grown : new ≡ w.core (w.fixed old) (w.entries old ++ it ∷ []) (w.notes old ++ note ∷ [])
    grown = (l.adds old new app call answer d).1

    fixed_after : w.fixed new ≡ w.fixed old
    fixed_after = ap w.fixed grown ∙ l.its_fixed (w.fixed old) (w.entries old ++ it ∷ []) (w.notes old ++ note ∷ [])

    -- the core's history has one entry more
    history_after : history_of w new ≡ history_of w old ++ (app, noted) ∷ []
    history_after =
        ap (history_of w) grown
        ∙ ap₂ (λ (es : List N) (ns : List Note). with_notes w es ns)
        (l.its_entries (w.fixed old) (w.entries old ++ it ∷ []) (w.notes old ++ note ∷ [])) (l.its_notes (w.fixed old) (w.entries old ++ it ∷ []) (w.notes old ++ note ∷ []))
        ∙ with_notes-push w l (w.entries old) it (w.notes old) note (l.even old e.sound)
        ∙ ap (λ (n : ℕ). history_of w old ++ (n, noted) ∷ []) (l.its_caller app call answer)

    pub known_after : app ≤ length (w.fixed new).budgets
    known_after = subst (λ (f : Fixed). app ≤ length f.budgets) (sym fixed_after) (known_found w l s app told port old e)

    -- so the turn may end
    pub made_one : (view : Known Fixed (NotedCall C A)) (value : S) → view ≡ entered_view v (history_of w old) → value ≡ new → MadeOne w view value
    made_one view value is same = record {
      opening = ap (λ (c : S). Some (w.fixed c)) same ∙ ap (λ f. Some f) fixed_after ∙ e.opening ∙ sym (ap (λ (x : Known Fixed (NotedCall C A)). x.fixed) is);
      call = noted;
      entry =
          ap (history_of w) same
          ∙ history_after
          ∙ ap₂ (λ (pairs : List (ℕ × NotedCall C A)) (n : ℕ). pairs ++ (n, noted) ∷ []) (sym (ap (λ (x : Known Fixed (NotedCall C A)). x.seen) is))
          (sym port.own ∙ sym (ap (λ (x : Known Fixed (NotedCall C A)). x.app) is));
    }

    module _ (sound : w.sound new) (t : SeatView Fixed (NotedCall C A)) (now : view_of t ≡ left_view (entered_view v (history_of w old)) (history_of w new)) where
      -- the port has seen the core as the call left it
      pub seen_after : seen_in w t ≡ new
      seen_after =
          ap (λ (x : Known Fixed (NotedCall C A)). core_with w x.fixed x.seen) now
          ∙ ap (λ (f : Fixed). core_with w (Some f) (history_of w new)) (fixed_found w l v old e ∙ sym fixed_after)
          ∙ core_again w l new sound

      -- and of the application's entries this one more
      own_after : entries_of v.app (history_of w new) ≡ v.mine ++ (app, noted) ∷ []
      own_after =
          ap₂ (λ (n : ℕ) (pairs : List (ℕ × NotedCall C A)). entries_of n pairs) port.own history_after
          ∙ pairs-push app (history_of w old) noted
          ∙ ap (λ (pairs : List (ℕ × NotedCall C A)). pairs ++ (app, noted) ∷ []) (ap (λ (n : ℕ). entries_of n (history_of w old)) (sym port.own) ∙ e.mine)

      mine_after : mine_in w t ≡ mine_in w s ++ it ∷ []
      mine_after =
          ap (λ (x : Known Fixed (NotedCall C A)). entries_in w x.mine) now
          ∙ ap (entries_in w) own_after
          ∙ map_push (entry_in w) v.mine (app, noted)
          ∙ ap (λ (x : N). mine_in w s ++ x ∷ []) (ap (λ (n : ℕ). w.entry n (w.call it) (w.answer it)) (sym (l.its_caller app call answer)) ∙ l.entry_is it)

      pub visited : t.lock ≡ s.lock → Answers w (port_in w s app) (port_in w t app) call answer
      visited lock = record {
        between = old;
        others = others_called w l s app told port old e;
        does = subst (λ (c : S). w.does old c app call answer) (sym seen_after) d;
        mine = mine_after;
        sound = subst (λ (c : S). w.sound c) (sym seen_after) sound;
        lock = lock;
        app = refl;
      }

      -- and a look that found something
      pub looked : (finds : S → S → Type 0) (vain : Bool) → vain ≡ false → finds old new → t.lock ≡ s.lock → AnswersLook w (port_in w s app) (port_in w t app) finds (look_entries w app call answer vain)
      looked finds vain is found lock = record {
        between = old;
        others = others_called w l s app told port old e;
        looks = subst (λ (c : S). finds old c) (sym seen_after) found;
        mine = mine_after ∙ ap (λ (b : Bool). mine_in w s ++ look_entries w app call answer b) (sym is);
        sound = subst (λ (c : S). w.sound c) (sym seen_after) sound;
        lock = lock;
        app = refl;
      }

      pub stays_port : (told_now : L) (name : TableId) → IsIn t name → w.tells new app told_now → IsPort w t app told_now
      stays_port told_now name in_it tells = record {
        seat = subst (λ (n : TableId). IsIn t n) (sym in_it.lock) in_it;
        own = ap (λ (x : Known Fixed (NotedCall C A)). x.app) now ∙ port.own;
        first = port.first;
        known = subst (λ (f : Option Fixed). app ≤ length (the_fixed f).budgets) (sym (ap (λ (x : Known Fixed (NotedCall C A)). x.fixed) now)) port.known;
        called = subst (λ (x : Known Fixed (NotedCall C A)). AreCalled x.seen) (sym now) (called_history w l new sound);
        mine =
            ap₂ (λ (n : ℕ) (x : Known Fixed (NotedCall C A)). entries_of n x.seen) (sym port.own) now
            ∙ sym (ap (λ (x : Known Fixed (NotedCall C A)). x.mine) now);
        tells = subst (λ (c : S). w.tells c app told_now) (sym seen_after) tells;
      }

  -- In vain. --

  module _ (t : SeatView Fixed (NotedCall C A)) (now : view_of t ≡ left_view (entered_view v (history_of w old)) (history_of w old)) where
    -- a port that looked in vain has seen the core as it found it
    pub seen_idle : seen_in w t ≡ old
    seen_idle =
        ap (λ (x : Known Fixed (NotedCall C A)). core_with w x.fixed x.seen) now
        ∙ ap (λ (f : Fixed). core_with w (Some f) (history_of w old)) (fixed_found w l v old e)
        ∙ core_again w l old e.sound

    mine_idle : mine_in w t ≡ mine_in w s
    mine_idle = ap (λ (x : Known Fixed (NotedCall C A)). entries_in w x.mine) now ∙ ap (entries_in w) e.mine

    pub idle : (new : S) (looks : S → S → Type 0) → new ≡ old → looks old new → t.lock ≡ s.lock → AnswersLook w (port_in w s app) (port_in w t app) looks []
    idle new looks still found lock = record {
      between = old;
      others = others_called w l s app told port old e;
      looks = subst (λ (c : S). looks old c) (still ∙ sym seen_idle) found;
      mine = mine_idle ∙ sym (append-nil (mine_in w s));
      sound = subst (λ (c : S). w.sound c) (sym seen_idle) e.sound;
      lock = lock;
      app = refl;
    }

    pub stays_idle : (told_now : L) (name : TableId) → IsIn t name → w.tells old app told_now → IsPort w t app told_now
    stays_idle told_now name in_it tells = record {
      seat = subst (λ (n : TableId). IsIn t n) (sym in_it.lock) in_it;
      own = ap (λ (x : Known Fixed (NotedCall C A)). x.app) now ∙ port.own;
      first = port.first;
      known = subst (λ (f : Option Fixed). app ≤ length (the_fixed f).budgets) (sym (ap (λ (x : Known Fixed (NotedCall C A)). x.fixed) now)) port.known;
      called = subst (λ (x : Known Fixed (NotedCall C A)). AreCalled x.seen) (sym now) (called_history w l old e.sound);
      mine =
          ap₂ (λ (n : ℕ) (x : Known Fixed (NotedCall C A)). entries_of n x.seen) (sym port.own) now
          ∙ sym (ap (λ (x : Known Fixed (NotedCall C A)). x.mine) now);
      tells = subst (λ (c : S). w.tells c app told_now) (sym seen_idle) tells;
    }
