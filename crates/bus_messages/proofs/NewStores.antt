-- A store that was just made.
use Rattle.std.proofs.Common.{◌≡◌, ℕ, ◌≤◌, zero, suc, Bool, true, false, List, [], ◌∷◌, replicate, refl, ap, sym, ◌∙◌, subst, arith}
use Rattle.std.proofs.lemmas.List.Elements.{All-nil}
use Rattle.std.proofs.lemmas.List.Sums.{sum_by-cons}
use Rattle.bucket_list.specs.Lists.{times, times_in}
use Rattle.zero_copy.specs.Held.{HeldDescs}
use Rattle.es_pool.specs.Pool.{most_cut}
use Rattle.bus_words.specs.Bus.{Buffer}
use Rattle.fsw_base.specs.Limits.{Limits}
use Rattle.buf_desc.specs.Desk.{Buffers, uncut}
use Rattle.bus_routes.specs.Missed.{Missed}
use Rattle.bus_routes.specs.Tables.{Tables}
use Rattle.bus_routes.specs.Tables as tables
use Rattle.bus_messages.specs.declared.store.BusStore.TheInside.{Inside}
use Rattle.bus_messages.specs.Store.{Store, opened}
use Rattle.bus_messages.specs.Inside.{store_of, Keeps, unsent_in, descs_in, OfItems, IsNamed}
use Rattle.bus_messages.proofs.Pool.{counted_new, account_unused}

-- empty lists have no descriptor
none_listed : (n d : ℕ) → times (replicate n []) d ≡ 0
none_listed zero d = refl
none_listed (suc n) d = let e = sum_by-cons (λ (l : List ℕ). times_in l d) [] (replicate n []) in omega (arith, e, none_listed n d)

none_unsent : (n : ℕ) → unsent_in [] (replicate n []) ≡ replicate n []
none_unsent zero = refl
none_unsent (suc n) = ap (λ (l : List (List Buffer)). [] ∷ l) (none_unsent n)

none_desc : (n : ℕ) → descs_in [] (replicate n []) ≡ []
none_desc zero = refl
none_desc (suc n) = none_desc n

-- the lists as they are made
pub lists_are : (limits : Limits) (apps blocks : ℕ) (l : HeldDescs) → l ≡ record { descs = blocks; lists = replicate apps [] } → blocks ≡ most_cut (uncut limits.pool limits.sizes).pool →
    l ≡ record { descs = most_cut (uncut limits.pool limits.sizes).pool; lists = replicate apps [] }
lists_are limits apps blocks l is most = is ∙ ap (λ n. let v : HeldDescs = record { descs = n; lists = replicate apps [] } in v) most

module _ (a : Inside) (limits : Limits) (apps : ℕ) (t : a.tables ≡ tables.opened limits) (d : a.desk ≡ uncut limits.pool limits.sizes) (m : a.misses ≡ record { items = []; dropped = []; room = limits.dests }) (l : a.lists ≡ record { descs = most_cut (uncut limits.pool limits.sizes).pool; lists = replicate apps [] }) (g : a.given ≡ 0) where
  abbrev first : Inside
  first = record { tables = tables.opened limits; desk = uncut limits.pool limits.sizes; misses = record { items = []; dropped = []; room = limits.dests }; lists = record { descs = most_cut (uncut limits.pool limits.sizes).pool; lists = replicate apps [] }; given = 0 }

  is_first : a ≡ first
  is_first =
      ap (λ (x : Tables). let v : Inside = record a { tables = x } in v) t
      ∙ ap (λ (x : Buffers). let v : Inside = record a { tables = tables.opened limits; desk = x } in v) d
      ∙ ap (λ (x : Missed). let v : Inside = record a { tables = tables.opened limits; desk = uncut limits.pool limits.sizes; misses = x } in v) m
      ∙ ap (λ (x : HeldDescs). let v : Inside = record first { lists = x; given = a.given } in v) l
      ∙ ap (λ (x : ℕ). let v : Inside = record first { given = x } in v) g

  off : (b : Bool) → b ≡ false → b ≡ true → ⊥
  off b x y = cc

  pub opened_keeps : limits.pipes ≤ 256 → Keeps a
  opened_keeps few = subst Keeps (sym is_first) (record {
    backed = record {
      tied = record {
        items = All-nil (OfItems (IsNamed []));
        uses = λ desc e. absurd (off false refl e);
        views = λ desc e. absurd (off false refl e);
        numbers = λ desc other e f same. absurd (off false refl e);
        given = λ desc e. absurd (off false refl e);
        sizes = λ desc e. absurd (off false refl e);
        account = counted_new limits.pool limits.sizes;
      };
      used = λ desc e. absurd (off false refl e);
    };
    listed = λ desc. none_listed apps desc;
    places = refl;
    misses = omega arith;
    pipes_live = omega arith;
    pipes_few = few;
    subscriptions_live = omega arith;
    subscriptions_made = omega arith;
  })

  pub opened_store : store_of a ≡ opened limits apps
  opened_store =
      ap store_of is_first
      ∙ ap (λ c. let v : Store = record (opened limits apps) { account = c; unsent = unsent_in [] (replicate apps []); descs = descs_in [] (replicate apps []) } in v) (account_unused limits.pool limits.sizes)
      ∙ ap (λ l. let v : Store = record (opened limits apps) { unsent = l; descs = descs_in [] (replicate apps []) } in v) (none_unsent apps)
      ∙ ap (λ l. let v : Store = record (opened limits apps) { descs = l } in v) (none_desc apps)
