-- The main part: the opening, a port, a join and the close.
use Rattle.std.proofs.Common.{◌≡◌, ◌⊎◌, ℕ, ◌-◌, ◌<◌, ◌≤◌, eqb, List, [], ◌∷◌, ◌++◌, length, get_or, map, All, Contains, Option, Some, refl, ap, ap₂, sym, ◌∙◌, subst, ⊎_elim, inl, inr, arith}
use Rattle.std.specs.List.{IsDistinct}
use Rattle.std.proofs.lemmas.List.{map_push, get_or_read}
use Rattle.std.proofs.lemmas.List.Elements.{All-nil, All-push, All-map, All-weaker, Contains-append_left}
use Rattle.atomic_table.specs.Seated.{TableId}
use Rattle.fsw_base.specs.declared.config.Budget.{Budget}
use Rattle.lend_block.specs.declared.note.Note.{Note}
use Rattle.turn_lock.specs.Views.{entries_of}
use Rattle.turn_lock.specs.Seats.{Known, SeatView, KeepsLonger, IsIn, IsMain, view_of, main_view, seat_view, with_app}
use Rattle.core_port.specs.Words.{Fixed, Words, Laws, budget_of}
use Rattle.core_port.specs.Histories.{the_fixed, with_notes, history_of, entries_in, notes_in, core_with, own_entries}
use Rattle.core_port.specs.Inside.{AreCalled, IsPort, IsMainPart, seen_in, mine_in, port_in, ended_in, main_in}
use Rattle.core_port.specs.Ports.{PortView, MainView, Begins, KeepsLongerOf}
use Rattle.core_port.specs.declared.history.NotedCall.{NotedCall}
use Rattle.core_port.proofs.ApplicationCounts.{none_once, one_more, room_for}
use Rattle.core_port.proofs.Histories.{own-entries_in, entries_in-append, notes_in-append, called_in, entries_again, core_again}
use mathlib.Core.List.{IsPrefix}

-- if nothing was entered there is no note
no_note : (ns : List Note) → length ns ≡ 0 → ns ≡ []
no_note [] is = refl
no_note (n ∷ ns) is = absurd (omega (arith, is))

-- what begins a list begins one that is the same
begun_by : {T : Type 0} (xs ys us vs : List T) → xs ≡ us → ys ≡ vs → IsPrefix us vs → IsPrefix xs ys
begun_by xs ys us vs is so begun = (begun.0, ap (λ zs. zs ++ begun.0) is ∙ begun.1 ∙ sym so)

module _ {S N C A L : Type 0} (w : Words S N C A L) (l : Laws w) where
  -- the parts of the core that a seat has seen
  pub fixed_is : (s : SeatView Fixed (NotedCall C A)) → w.fixed (seen_in w s) ≡ the_fixed (view_of s).fixed
  fixed_is s = l.its_fixed (the_fixed (view_of s).fixed) (entries_in w (view_of s).seen) (notes_in w (view_of s).seen)

  pub entries_are : (s : SeatView Fixed (NotedCall C A)) → w.entries (seen_in w s) ≡ entries_in w (view_of s).seen
  entries_are s = l.its_entries (the_fixed (view_of s).fixed) (entries_in w (view_of s).seen) (notes_in w (view_of s).seen)

  notes_are : (s : SeatView Fixed (NotedCall C A)) → w.notes (seen_in w s) ≡ notes_in w (view_of s).seen
  notes_are s = l.its_notes (the_fixed (view_of s).fixed) (entries_in w (view_of s).seen) (notes_in w (view_of s).seen)

  -- The opening. --

  module _ (core : S) (sound : w.sound core) (none : w.entries core ≡ []) where
    no_notes : w.notes core ≡ []
    no_notes = no_note (w.notes core) (l.even core sound ∙ ap (λ (es : List N). length es) none)

    pub no_history : history_of w core ≡ []
    no_history = ap₂ (λ (es : List N) (ns : List Note). with_notes w es ns) none no_notes

    opening_is : core_with w (Some (w.fixed core)) [] ≡ core
    opening_is = ap (λ (pairs : List (ℕ × NotedCall C A)). core_with w (Some (w.fixed core)) pairs) (sym no_history) ∙ core_again w l core sound

    module _ (s : SeatView Fixed (NotedCall C A)) (name : TableId) (main : IsMain s name) (is : view_of s ≡ main_view (w.fixed core) []) where
      pub opened : main_in w s ≡ record { lock = name; seen = core; apps = []; ended = [] }
      opened =
          ap₂ (λ (n : TableId) (v : Known Fixed (NotedCall C A)). main_of n v) main.lock is
          ∙ ap (λ (c : S). opened_at name c) opening_is
        where
          main_of : TableId → Known Fixed (NotedCall C A) → MainView S N
          main_of n v = record { lock = n; seen = core_with w v.fixed v.seen; apps = v.apps; ended = map (ended_in w) v.ended }

          opened_at : TableId → S → MainView S N
          opened_at n c = record { lock = n; seen = c; apps = []; ended = [] }

      pub opens : (given : List Budget) (room : ℕ) → (w.fixed core).budgets ≡ given → w.view_room (w.fixed core).limits ≡ room → IsMainPart w s given room
      opens given room budgets views = record {
        main = subst (λ n. IsMain s n) (sym main.lock) main;
        budgets = ap (λ (v : Known Fixed (NotedCall C A)). (the_fixed v.fixed).budgets) is ∙ budgets;
        views = ap (λ (v : Known Fixed (NotedCall C A)). w.view_room (the_fixed v.fixed).limits) is ∙ views;
        distinct = subst (λ (v : Known Fixed (NotedCall C A)). IsDistinct eqb (0 ∷ v.apps)) (sym is) none_once;
        each = subst (λ (v : Known Fixed (NotedCall C A)). All (λ (app : ℕ). app ≤ 16) v.apps) (sym is) (All-nil (λ (app : ℕ). app ≤ 16));
        called = subst (λ (v : Known Fixed (NotedCall C A)). AreCalled v.seen) (sym is) (All-nil (λ (p : ℕ × NotedCall C A). 1 ≤ p.0));
        others = λ app out. ap (λ (v : Known Fixed (NotedCall C A)). entries_of app v.seen) is;
      }

  -- What is known of a main part. --

  module _ (s : SeatView Fixed (NotedCall C A)) (given : List Budget) (room : ℕ) (part : IsMainPart w s given room) where
    pub main_called : All (λ e. 1 ≤ w.caller e) (w.entries (seen_in w s))
    main_called = subst (λ (es : List N). All (λ e. 1 ≤ w.caller e) es) (sym (entries_are s)) (called_in w l (view_of s).seen part.called)

    pub main_others : (app : ℕ) → ¬ (Contains (view_of s).apps app) → own_entries w app (w.entries (seen_in w s)) ≡ []
    main_others app out = ap (own_entries w app) (entries_are s) ∙ own-entries_in w l app (view_of s).seen ∙ ap (entries_in w) (part.others app out)

    -- a budget read from the list of these
    pub main_budget : (app : ℕ) (budget : Budget) → 1 ≤ app → app ≤ length (w.fixed (seen_in w s)).budgets → budget ≡ get_or given (app - 1) budget → budget ≡ budget_of (w.fixed (seen_in w s)).budgets app
    main_budget app budget first known read =
        let same : (w.fixed (seen_in w s)).budgets ≡ given = ap (λ (f : Fixed). f.budgets) (fixed_is s) ∙ part.budgets in
        get_or_read given (app - 1) budget (omega (arith, first, known, ap (λ (l : List Budget). length l) same)) read (record { entries = 0; bytes = 0; buffers = 0 })
        ∙ ap (λ (l : List Budget). budget_of l app) (sym same)

    pub main_views : w.view_room (w.fixed (seen_in w s)).limits ≡ room
    main_views = ap (λ (f : Fixed). w.view_room f.limits) (fixed_is s) ∙ part.views

  -- A port. --

  module _ (s : SeatView Fixed (NotedCall C A)) (given : List Budget) (room : ℕ) (part : IsMainPart w s given room) (app : ℕ) (first : 1 ≤ app) (last : app ≤ 16) (out : ¬ (Contains (view_of s).apps app)) where
    pub room_left : length (view_of s).apps < 16
    room_left = room_for (view_of s).apps app part.distinct part.each first last out

    -- the main part has one application more
    module _ (t : SeatView Fixed (NotedCall C A)) (name : TableId) (main : IsMain t name) (is : view_of t ≡ with_app (view_of s) app) where
      pub one_app_more : s.lock ≡ name → main_in w t ≡ record (main_in w s) { apps = (main_in w s).apps ++ app ∷ [] }
      one_app_more here =
          ap₂ (λ (n : TableId) (v : Known Fixed (NotedCall C A)). main_of n v) (main.lock ∙ sym here) is
        where
          main_of : TableId → Known Fixed (NotedCall C A) → MainView S N
          main_of n v = record { lock = n; seen = core_with w v.fixed v.seen; apps = v.apps; ended = map (ended_in w) v.ended }

      pub stays_main : IsMainPart w t given room
      stays_main = record {
        main = subst (λ n. IsMain t n) (sym main.lock) main;
        budgets = ap (λ (v : Known Fixed (NotedCall C A)). (the_fixed v.fixed).budgets) is ∙ part.budgets;
        views = ap (λ (v : Known Fixed (NotedCall C A)). w.view_room (the_fixed v.fixed).limits) is ∙ part.views;
        distinct = subst (λ (v : Known Fixed (NotedCall C A)). IsDistinct eqb (0 ∷ v.apps)) (sym is) (one_more (view_of s).apps app part.distinct first out);
        each = subst (λ (v : Known Fixed (NotedCall C A)). All (λ (n : ℕ). n ≤ 16) v.apps) (sym is) (All-push (λ (n : ℕ). n ≤ 16) (view_of s).apps app part.each last);
        called = subst (λ (v : Known Fixed (NotedCall C A)). AreCalled v.seen) (sym is) part.called;
        others = λ other away.
            ap (λ (v : Known Fixed (NotedCall C A)). entries_of other v.seen) is
            ∙ part.others other (λ there. away (subst (λ (v : Known Fixed (NotedCall C A)). Contains v.apps other) (sym is) (Contains-append_left (view_of s).apps (app ∷ []) other there)));
      }

    -- and the port is one that has made no call
    module _ (t : SeatView Fixed (NotedCall C A)) (name : TableId) (ready : IsIn t name) (is : view_of t ≡ seat_view (view_of s) app) where
      pub new_port : port_in w t app ≡ record { lock = name; app = app; seen = seen_in w s; mine = [] }
      new_port = ap₂ (λ (n : TableId) (v : Known Fixed (NotedCall C A)). port_of n v) ready.lock is
        where
          port_of : TableId → Known Fixed (NotedCall C A) → PortView S N
          port_of n v = record { lock = n; app = app; seen = core_with w v.fixed v.seen; mine = entries_in w v.mine }

      pub is_port : (told : L) → app ≤ length (the_fixed (view_of s).fixed).budgets → w.tells (seen_in w s) app told → IsPort w t app told
      is_port told known tells = record {
        seat = subst (λ n. IsIn t n) (sym ready.lock) ready;
        own = ap (λ (v : Known Fixed (NotedCall C A)). v.app) is;
        first = first;
        known = subst (λ (v : Known Fixed (NotedCall C A)). app ≤ length (the_fixed v.fixed).budgets) (sym is) known;
        called = subst (λ (v : Known Fixed (NotedCall C A)). AreCalled v.seen) (sym is) part.called;
        mine = ap (λ (v : Known Fixed (NotedCall C A)). entries_of app v.seen) is ∙ part.others app out ∙ sym (ap (λ (v : Known Fixed (NotedCall C A)). v.mine) is);
        tells = subst (λ (v : Known Fixed (NotedCall C A)). w.tells (core_with w v.fixed v.seen) app told) (sym is) tells;
      }

  -- What is known of a port. --

  module _ (s : SeatView Fixed (NotedCall C A)) (app : ℕ) (told : L) (port : IsPort w s app told) where
    pub port_known : app ≤ length (w.fixed (seen_in w s)).budgets
    port_known = subst (λ (f : Fixed). app ≤ length f.budgets) (sym (fixed_is s)) port.known

    pub port_called : All (λ e. 1 ≤ w.caller e) (w.entries (seen_in w s))
    port_called = subst (λ (es : List N). All (λ e. 1 ≤ w.caller e) es) (sym (entries_are s)) (called_in w l (view_of s).seen port.called)

    pub port_mine : own_entries w app (w.entries (seen_in w s)) ≡ mine_in w s
    port_mine = ap (own_entries w app) (entries_are s) ∙ own-entries_in w l app (view_of s).seen ∙ ap (entries_in w) port.mine

  -- Beginnings. --

  -- what begins a history begins its entries and its notes
  pub begins : (f g : Option Fixed) (one other : List (ℕ × NotedCall C A)) → IsPrefix one other → Begins w (core_with w f one) (core_with w g other)
  begins f g one other is = record {
    entries = begun_by (w.entries (core_with w f one)) (w.entries (core_with w g other)) (entries_in w one) (entries_in w other) (its f one) (its g other) (entries_in w is.0, sym (entries_in-append w l one is.0) ∙ ap (entries_in w) is.1);
    notes = begun_by (w.notes (core_with w f one)) (w.notes (core_with w g other)) (notes_in w one) (notes_in w other) (note f one) (note g other) (notes_in w is.0, sym (notes_in-append w l one is.0) ∙ ap (notes_in w) is.1);
  }
    where
      its : (h : Option Fixed) (pairs : List (ℕ × NotedCall C A)) → w.entries (core_with w h pairs) ≡ entries_in w pairs
      its h pairs = l.its_entries (the_fixed h) (entries_in w pairs) (notes_in w pairs)

      note : (h : Option Fixed) (pairs : List (ℕ × NotedCall C A)) → w.notes (core_with w h pairs) ≡ notes_in w pairs
      note h pairs = l.its_notes (the_fixed h) (entries_in w pairs) (notes_in w pairs)

  -- A join. --

  module _ (s d t : SeatView Fixed (NotedCall C A)) (same : (view_of t).fixed ≡ (view_of s).fixed) where
    pub keeps_longer : KeepsLonger (view_of s).seen (view_of d).seen (view_of t).seen → KeepsLongerOf w (seen_in w s) (seen_in w d) (seen_in w t)
    keeps_longer one =
        ⊎_elim
        (λ (x : IsPrefix (view_of s).seen (view_of d).seen × ((view_of t).seen ≡ (view_of d).seen)).
        inl (begins (view_of s).fixed (view_of d).fixed (view_of s).seen (view_of d).seen x.0, kept same x.1 ∙ sym other_history))
        (λ (x : IsPrefix (view_of d).seen (view_of s).seen × ((view_of t).seen ≡ (view_of s).seen)).
        inr (begins (view_of d).fixed (view_of s).fixed (view_of d).seen (view_of s).seen x.0, kept same x.1))
        one
      where
        kept : {f g : Option Fixed} {xs ys : List (ℕ × NotedCall C A)} → f ≡ g → xs ≡ ys → core_with w f xs ≡ core_with w g ys
        kept is so = ap₂ (λ (f : Option Fixed) (pairs : List (ℕ × NotedCall C A)). core_with w f pairs) is so

        other_history : w.core (w.fixed (seen_in w s)) (w.entries (seen_in w d)) (w.notes (seen_in w d)) ≡ core_with w (view_of s).fixed (view_of d).seen
        other_history =
            ap (λ (f : Fixed). w.core f (w.entries (seen_in w d)) (w.notes (seen_in w d))) (fixed_is s)
            ∙ ap₂ (λ (es : List N) (ns : List Note). w.core (the_fixed (view_of s).fixed) es ns) (entries_are d) (notes_are d)

    pub joins : (name : TableId) (given : List Budget) (room : ℕ) → IsMainPart w s given room → AreCalled (view_of d).seen → IsMain t name →
        KeepsLonger (view_of s).seen (view_of d).seen (view_of t).seen → (view_of t).apps ≡ (view_of s).apps →
        ((app : ℕ) → ¬ (Contains (view_of t).apps app) → entries_of app (view_of t).seen ≡ []) → IsMainPart w t given room
    joins name given room part called main longer apps others = record {
      main = subst (λ n. IsMain t n) (sym main.lock) main;
      budgets = ap (λ (f : Option Fixed). (the_fixed f).budgets) same ∙ part.budgets;
      views = ap (λ (f : Option Fixed). w.view_room (the_fixed f).limits) same ∙ part.views;
      distinct = subst (λ (xs : List ℕ). IsDistinct eqb (0 ∷ xs)) (sym apps) part.distinct;
      each = subst (λ (xs : List ℕ). All (λ (n : ℕ). n ≤ 16) xs) (sym apps) part.each;
      called =
          ⊎_elim
          (λ (x : IsPrefix (view_of s).seen (view_of d).seen × ((view_of t).seen ≡ (view_of d).seen)). subst (λ (pairs : List (ℕ × NotedCall C A)). AreCalled pairs) (sym x.1) called)
          (λ (x : IsPrefix (view_of d).seen (view_of s).seen × ((view_of t).seen ≡ (view_of s).seen)). subst (λ (pairs : List (ℕ × NotedCall C A)). AreCalled pairs) (sym x.1) part.called)
          longer;
      others = others;
    }

  pub joined_ended : (ended all : List (ℕ × List (ℕ × NotedCall C A))) (app : ℕ) (mine : List (ℕ × NotedCall C A)) → all ≡ ended ++ (app, mine) ∷ [] →
      map (ended_in w) all ≡ map (ended_in w) ended ++ (app, entries_in w mine) ∷ []
  joined_ended ended all app mine is = ap (map (ended_in w)) is ∙ map_push (ended_in w) ended (app, mine)

  -- The close. --

  apps_in : (ended : List (ℕ × List (ℕ × NotedCall C A))) → map (λ (e : ℕ × List N). e.0) (map (ended_in w) ended) ≡ map (λ (e : ℕ × List (ℕ × NotedCall C A)). e.0) ended
  apps_in [] = refl
  apps_in (e ∷ ended) = ap (λ xs. e.0 ∷ xs) (apps_in ended)

  -- each port was joined, as the lock asks it
  pub all_joined : (apps : List ℕ) (ended : List (ℕ × List (ℕ × NotedCall C A))) → All (Contains (map (λ (e : ℕ × List N). e.0) (map (ended_in w) ended))) apps →
      All (Contains (map (λ (e : ℕ × List (ℕ × NotedCall C A)). e.0) ended)) apps
  all_joined apps ended all = subst (λ xs. All (Contains xs) apps) (apps_in ended) all

  module _ (core : S) (sound : w.sound core) where
    -- an application's entries in the history are its entries
    own_is : (app : ℕ) (pairs : List (ℕ × NotedCall C A)) → entries_of app (history_of w core) ≡ pairs → own_entries w app (w.entries core) ≡ entries_in w pairs
    own_is app pairs is = ap (own_entries w app) (sym (entries_again w l core sound)) ∙ own-entries_in w l app (history_of w core) ∙ ap (entries_in w) is

    pub ended_are : (ended : List (ℕ × List (ℕ × NotedCall C A))) → All (λ (e : ℕ × List (ℕ × NotedCall C A)). entries_of e.0 (history_of w core) ≡ e.1) ended →
        All (λ (e : ℕ × List N). own_entries w e.0 (w.entries core) ≡ e.1) (map (ended_in w) ended)
    ended_are ended all =
        All-map (λ (e : ℕ × List N). own_entries w e.0 (w.entries core) ≡ e.1) (ended_in w) ended
        (All-weaker (λ (e : ℕ × List (ℕ × NotedCall C A)). entries_of e.0 (history_of w core) ≡ e.1) (λ (e : ℕ × List (ℕ × NotedCall C A)). own_entries w e.0 (w.entries core) ≡ entries_in w e.1) (λ e is. own_is e.0 e.1 is) ended all)

    pub others_none : (app : ℕ) → entries_of app (history_of w core) ≡ [] → own_entries w app (w.entries core) ≡ []
    others_none app is = own_is app [] is

    -- what a seat has seen begins it
    pub seen_begins : (f : Option Fixed) (seen : List (ℕ × NotedCall C A)) → IsPrefix seen (history_of w core) → Begins w (core_with w f seen) core
    seen_begins f seen is =
        subst (λ (c : S). Begins w (core_with w f seen) c) (core_again w l core sound) (begins f (Some (w.fixed core)) seen (history_of w core) is)

    pub opening_seen : (f : Option Fixed) (seen : List (ℕ × NotedCall C A)) → Some (w.fixed core) ≡ f → w.fixed core ≡ w.fixed (core_with w f seen)
    opening_seen f seen is = ap the_fixed is ∙ sym (l.its_fixed (the_fixed f) (entries_in w seen) (notes_in w seen))
