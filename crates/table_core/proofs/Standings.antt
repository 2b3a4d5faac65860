-- How handles and tables of the state stand.
use Rattle.std.proofs.Common.{◌≡◌, ℕ, ◌<◌, Bool, true, false, cond, eqb, Option, Some, None, List, [], ◌∷◌, map, filter, length, get_or, find, All, refl, ap, sym, ◌∙◌, subst, arith}
use Rattle.std.specs.List.{AllPairs}
use Rattle.std.specs.Option.{option_map}
use Rattle.std.proofs.lemmas.List.{get_or-map, length-map}
use Rattle.std.proofs.lemmas.List.Elements.{All-head, All-tail, All-map}
use Rattle.fsw_base.proofs.Lists.{list_any-map, filter_all, find-map}
use Rattle.tbl_words.specs.Tables as state
use Rattle.tbl_words.specs.Machine.{without_handles, after_leave}
use Rattle.tbl_registry.specs.declared.rows.Handle.{Handle}
use Rattle.tbl_registry.specs.Listing.{Table, IsTied, is_live, first_owned}
use Rattle.table_blocks.specs.Contents.{content_at, is_staged}
use Rattle.table_core.specs.declared.plain.PlainTables.TheInside.{Inside}
use Rattle.table_core.specs.Core.{Plain}
use Rattle.table_core.specs.Inside.{plain_of, means, table_in, table_with, handle_in, Keeps}
use Rattle.table_core.proofs.Changes.{map-map}
use Rattle.table_core.proofs.Registers.{map_all, none_staged}

filter_whole : {X : Type 0} (p : X → Bool) (xs : List X) → All (λ x. p x ≡ true) xs → filter p xs ≡ xs
filter_whole p [] all = refl
filter_whole {X} p (x ∷ xs) all =
    ap (λ b. cond {A = List X} b (x ∷ filter p xs) (filter p xs)) (All-head (λ y. p y ≡ true) x xs all)
    ∙ ap (λ l. x ∷ l) (filter_whole p xs (All-tail (λ y. p y ≡ true) x xs all))

abbrev nobody : Handle
nobody = record { number = 0; app = 0; table = 0; key = 0; told = 0; held = None }

module _ (a : Inside) (core : Plain) (viewed : plain_of a ≡ core) where
  -- the first handle of an application
  pub first_here : (app : ℕ) (o : Option ℕ) → o ≡ option_map (λ h. h.number) (first_owned a.registry.handles app) → o ≡ option_map (λ h. h.number) (find (λ h. eqb h.app app) core.state.handles)
  first_here app o is =
      is
      ∙ sym (by_found (first_owned a.registry.handles app))
      ∙ ap (option_map (λ (h : state.Handle). h.number)) (sym (find-map (λ (h : state.Handle). eqb h.app app) (handle_in a.blocks.tables) a.registry.handles) ∙ ap (λ (p : Plain). find (λ (h : state.Handle). eqb h.app app) p.state.handles) viewed)
    where
      by_found : (x : Option Handle) → option_map (λ (h : state.Handle). h.number) (option_map (handle_in a.blocks.tables) x) ≡ option_map (λ (h : Handle). h.number) x
      by_found None = refl
      by_found (Some h) = refl

  -- handles stand in order of number
  pub rise_here : IsTied a.registry → AllPairs (λ earlier later. earlier.number < later.number) core.state.handles
  rise_here tied =
      subst (λ (p : Plain). AllPairs (λ (earlier later : state.Handle). earlier.number < later.number) p.state.handles) viewed
      (λ i j d lt within.
      let long : length (map (handle_in a.blocks.tables) a.registry.handles) ≡ length a.registry.handles = length-map a.registry.handles (handle_in a.blocks.tables) in
      omega (
        arith,
        tied.handles_rise i j nobody lt (omega (arith, within, long)),
        ap (λ (h : state.Handle). h.number) (get_or-map (handle_in a.blocks.tables) a.registry.handles i nobody d (omega (arith, lt, within, long))),
        ap (λ (h : state.Handle). h.number) (get_or-map (handle_in a.blocks.tables) a.registry.handles j nobody d (omega (arith, within, long))),
      ))

  -- if none leaves, nothing changes
  pub still_here : Keeps a → without_handles (λ h. false) core.state ≡ core.state
  still_here keeps = subst (λ (p : Plain). without_handles (λ (h : state.Handle). false) p.state ≡ p.state) viewed stays
    where
      live_as : (number : ℕ) → state.is_live (map (handle_in a.blocks.tables) a.registry.handles) number ≡ is_live a.registry.handles number
      live_as number = list_any-map (λ (k : state.Handle). eqb k.number number) (handle_in a.blocks.tables) a.registry.handles

      by_live : (t : Table) (b : Bool) → is_live a.registry.handles t.number ≡ b → (is_live a.registry.handles t.number ≡ false → is_staged (content_at a.blocks.tables t.key).next ≡ false) →
          cond {A = state.Table} b (table_in a.registry.handles a.blocks.tables t) (record (table_in a.registry.handles a.blocks.tables t) { registered = false; staged = None }) ≡ table_in a.registry.handles a.blocks.tables t
      by_live t true is none = refl
      by_live t false is none =
          ap (λ (staged : Option state.Staged). let u : state.Table = record (table_in a.registry.handles a.blocks.tables t) { registered = false; staged = staged } in u) (sym (none_staged (content_at a.blocks.tables t.key).next (none is)))
          ∙ ap (λ x. table_with x t (content_at a.blocks.tables t.key)) (sym is)

      same_tables : map (after_leave (map (handle_in a.blocks.tables) a.registry.handles)) (means a).tables ≡ (means a).tables
      same_tables =
          map-map (after_leave (map (handle_in a.blocks.tables) a.registry.handles)) (table_in a.registry.handles a.blocks.tables) a.registry.tables
          ∙ map_all (λ t. after_leave (map (handle_in a.blocks.tables) a.registry.handles) (table_in a.registry.handles a.blocks.tables t)) (table_in a.registry.handles a.blocks.tables) a.registry.tables
          (λ k d within.
          let t = get_or a.registry.tables k d in
          ap (λ b. cond {A = state.Table} b (table_in a.registry.handles a.blocks.tables t) (record (table_in a.registry.handles a.blocks.tables t) { registered = false; staged = None })) (live_as t.number)
          ∙ by_live t (is_live a.registry.handles t.number) refl (keeps.filled k d within).unstaged)

      whole_tables : filter (λ (t : state.Table). state.has_handle (map (handle_in a.blocks.tables) a.registry.handles) t.number) (means a).tables ≡ (means a).tables
      whole_tables =
          filter_whole (λ (t : state.Table). state.has_handle (map (handle_in a.blocks.tables) a.registry.handles) t.number) (means a).tables
          (All-map (λ (t : state.Table). state.has_handle (map (handle_in a.blocks.tables) a.registry.handles) t.number ≡ true) (table_in a.registry.handles a.blocks.tables) a.registry.tables
          (λ k d within. list_any-map (λ (x : state.Handle). eqb x.table (get_or a.registry.tables k d).number) (handle_in a.blocks.tables) a.registry.handles ∙ keeps.had k d within))

      stays : without_handles (λ (h : state.Handle). false) (means a) ≡ means a
      stays =
          ap (λ (hs : List state.Handle). let s : state.State = record (means a) { handles = hs; tables = filter (λ (t : state.Table). state.has_handle hs t.number) (map (after_leave hs) (means a).tables) } in s) (filter_all (λ (h : state.Handle). true) (λ h. refl) (means a).handles)
          ∙ ap (λ (ts : List state.Table). let s : state.State = record (means a) { tables = filter (λ (t : state.Table). state.has_handle (means a).handles t.number) ts } in s) same_tables
          ∙ ap (λ (ts : List state.Table). let s : state.State = record (means a) { tables = ts } in s) whole_tables
