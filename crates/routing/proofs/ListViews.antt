-- What a caller sees of the lists: the destinations kept at their nodes.
use Rattle.std.proofs.Common.{◌≡◌, ℕ, ◌+◌, ◌*◌, ◌<◌, ltb, Option, Some, None, zero, suc, Bool, true, false, ◌||◌, cond, eqb, List, [], ◌∷◌, ◌++◌, length, get_or, set, map, refl, ap, sym, subst, ◌∙◌, arith}
use Rattle.std.proofs.lemmas.Bool.Decides.{nat_tests}
use Rattle.std.proofs.lemmas.List.{get_or-set_same, get_or-set_other}
use Rattle.std.proofs.lemmas.List.Sums.{sum_by-cons}
use Rattle.std.specs.Option.{IfSome}
use Rattle.bucket_list.specs.Lists.{Listed, times_in, times}
use Rattle.bucket_list.proofs.Counts.{times_in-le-times}
use Rattle.subscriptions.specs.declared.words.SubNo.{SubNo}
use Rattle.routing.specs.Dests.{Dest, DestTable, dests_in, has_node, last_node, without}
use Rattle.routing.specs.Inside.{dest_at, dests_seen, rings, AreRings}
use Rattle.routing.proofs.Links.{not_in, shown, left_of, map-left}
use Rattle.routing.proofs.Nodes.{length-rings, length-ring, ring}

pub length-seen : (subs : List SubNo) (lists : List (List ℕ)) → length (dests_seen subs lists) ≡ length lists
length-seen subs [] = refl
length-seen subs (xs ∷ lists) = ap suc (length-seen subs lists)

pub get_or-seen : (subs : List SubNo) (lists : List (List ℕ)) (list : ℕ) → get_or (dests_seen subs lists) list [] ≡ map (dest_at subs) (get_or lists list [])
get_or-seen subs [] list = refl
get_or-seen subs (xs ∷ lists) zero = refl
get_or-seen subs (xs ∷ lists) (suc list) = get_or-seen subs lists list

pub length-dests : (subs : List SubNo) (xs : List ℕ) → length (map (dest_at subs) xs) ≡ length xs
length-dests subs [] = refl
length-dests subs (x ∷ xs) = ap suc (length-dests subs xs)

pub seen-set : (subs : List SubNo) (lists : List (List ℕ)) (list : ℕ) (xs : List ℕ) → dests_seen subs (set lists list xs) ≡ set (dests_seen subs lists) list (map (dest_at subs) xs)
seen-set subs [] list xs = refl
seen-set subs (ys ∷ lists) zero xs = refl
seen-set subs (ys ∷ lists) (suc list) xs = ap (λ ls. map (dest_at subs) ys ∷ ls) (seen-set subs lists list xs)

-- what is kept at a node that they aren't doesn't matter to them
dests_same : (subs : List SubNo) (node : ℕ) (sub : SubNo) (xs : List ℕ) → times_in xs node ≡ 0 → map (dest_at (set subs node sub)) xs ≡ map (dest_at subs) xs
dests_same subs node sub [] none = refl
dests_same subs node sub (x ∷ xs) none =
    let n = not_in x xs node none in
    ap (λ s. (x, s) ∷ map (dest_at (set subs node sub)) xs) (get_or-set_other subs node x sub (record { slot = 0; number = 0 }) (λ e. n.0 (sym e)))
    ∙ ap (λ ds. dest_at subs x ∷ ds) (dests_same subs node sub xs n.1)

seen_same : (subs : List SubNo) (node : ℕ) (sub : SubNo) (lists : List (List ℕ)) → times lists node ≡ 0 → dests_seen (set subs node sub) lists ≡ dests_seen subs lists
seen_same subs node sub [] none = refl
seen_same subs node sub (xs ∷ lists) none =
    let c : times (xs ∷ lists) node ≡ times_in xs node + times lists node = sum_by-cons (λ ns. times_in ns node) xs lists in
    ap (λ ds. ds ∷ dests_seen (set subs node sub) lists) (dests_same subs node sub xs (omega (arith, none, c)))
    ∙ ap (λ ls. map (dest_at subs) xs ∷ ls) (seen_same subs node sub lists (omega (arith, none, c)))

dests_back : (subs : List SubNo) (node : ℕ) (sub : SubNo) (xs : List ℕ) → times_in xs node ≡ 0 → node < length subs → map (dest_at (set subs node sub)) (xs ++ node ∷ []) ≡ map (dest_at subs) xs ++ (node, sub) ∷ []
dests_back subs node sub [] none h = ap (λ s. (node, s) ∷ []) (get_or-set_same subs node sub (record { slot = 0; number = 0 }) h)
dests_back subs node sub (x ∷ xs) none h =
    let n = not_in x xs node none in
    ap (λ s. (x, s) ∷ map (dest_at (set subs node sub)) (xs ++ node ∷ [])) (get_or-set_other subs node x sub (record { slot = 0; number = 0 }) (λ e. n.0 (sym e)))
    ∙ ap (λ ds. dest_at subs x ∷ ds) (dests_back subs node sub xs n.1 h)

last_node-back : (dests : List Dest) (node : ℕ) (sub : SubNo) → last_node (dests ++ (node, sub) ∷ []) ≡ node
last_node-back [] node sub = refl
last_node-back (d ∷ []) node sub = refl
last_node-back (d ∷ e ∷ dests) node sub = last_node-back (e ∷ dests) node sub

pub no_node : (subs : List SubNo) (node : ℕ) (xs : List ℕ) → times_in xs node ≡ 0 → has_node node (map (dest_at subs) xs) ≡ false
no_node subs node [] none = refl
no_node subs node (x ∷ xs) none =
    let n = not_in x xs node none in
    ap (λ b. b || has_node node (map (dest_at subs) xs)) (other x (λ e. n.0 (sym e))) ∙ no_node subs node xs n.1
  where
    other : (m : ℕ) → (m ≡ node → ⊥) → eqb m node ≡ false
    other m ne = grind (arith, nat_tests)

-- a destination more, as a caller sees it
pub record Added (before after : List (List Dest)) (list : ℕ) (sub : SubNo) : Type 0 where
  pub added : after ≡ set before list (get_or before list [] ++ (last_node (get_or after list []), sub) ∷ [])
  pub fresh : (other : ℕ) → other < length before → has_node (last_node (get_or after list [])) (get_or before other []) ≡ false

pub adds_seen : (subs subs' : List SubNo) (lists lists' : List (List ℕ)) (list node : ℕ) (sub : SubNo) → list < length lists → times lists node ≡ 0 → node < length subs → subs' ≡ set subs node sub → lists' ≡ set lists list (get_or lists list [] ++ node ∷ [])
    → Added (dests_seen subs lists) (dests_seen subs' lists') list sub
adds_seen subs subs' lists lists' list node sub h loose low e_subs e_lists =
    let xs = get_or lists list [] in
    let ds = get_or (dests_seen subs lists) list [] in
    let out : times_in xs node ≡ 0 = omega (arith, loose, times_in-le-times lists list node h) in
    let seen : dests_seen subs' lists' ≡ set (dests_seen subs lists) list (ds ++ (node, sub) ∷ []) =
    ap (dests_seen subs') e_lists ∙ (ap (λ ss. dests_seen ss (set lists list (xs ++ node ∷ []))) e_subs
    ∙ (seen-set (set subs node sub) lists list (xs ++ node ∷ [])
    ∙ (ap (λ ls. set ls list (map (dest_at (set subs node sub)) (xs ++ node ∷ []))) (seen_same subs node sub lists loose)
    ∙ (ap (set (dests_seen subs lists) list) (dests_back subs node sub xs out low)
    ∙ ap (λ es. set (dests_seen subs lists) list (es ++ (node, sub) ∷ [])) (sym (get_or-seen subs lists list)))))) in
    let last : last_node (get_or (dests_seen subs' lists') list []) ≡ node =
    ap (λ ls. last_node (get_or ls list [])) seen ∙ (ap last_node (get_or-set_same (dests_seen subs lists) list (ds ++ (node, sub) ∷ []) [] (omega (arith, h, length-seen subs lists))) ∙ last_node-back ds node sub) in
    record {
      added = seen ∙ ap (λ n. set (dests_seen subs lists) list (ds ++ (n, sub) ∷ [])) (sym last);
      fresh = λ other ho. ap (λ n. has_node n (get_or (dests_seen subs lists) other [])) last
          ∙ (ap (has_node node) (get_or-seen subs lists other)
          ∙ no_node subs node (get_or lists other []) (omega (arith, loose, times_in-le-times lists other node (omega (arith, ho, length-seen subs lists)))));
    }

-- what a caller sees of these fields
abbrev pub table_of : List SubNo → List ℕ → ℕ → List ℕ → ℕ → DestTable
table_of subs links nodes lens limit = record { limit = limit; lists = dests_seen subs (rings links nodes lens) }

pub list_inside : (subs : List SubNo) (links : List ℕ) (nodes : ℕ) (lens : List ℕ) (limit : ℕ) (table : DestTable) → table_of subs links nodes lens limit ≡ table → (list : ℕ) → list < length table.lists → list < length lens
list_inside subs links nodes lens limit table e list h =
    omega (arith, h, length-seen subs (rings links nodes lens), length-rings links nodes lens, ap (λ (t : DestTable). length t.lists) e)

pub list_seen : (subs : List SubNo) (links : List ℕ) (nodes : ℕ) (lens : List ℕ) (limit : ℕ) (table : DestTable) → table_of subs links nodes lens limit ≡ table → (list : ℕ) → map (dest_at subs) (ring links nodes lens list) ≡ dests_in table list
list_seen subs links nodes lens limit table e list = sym (get_or-seen subs (rings links nodes lens) list) ∙ ap (λ (t : DestTable). dests_in t list) e

pub list_long : (subs : List SubNo) (links : List ℕ) (nodes : ℕ) (lens : List ℕ) (limit : ℕ) (table : DestTable) → table_of subs links nodes lens limit ≡ table → (list : ℕ) → list < length lens → get_or lens list 0 ≡ length (dests_in table list)
list_long subs links nodes lens limit table e list h =
    sym (length-ring links nodes lens list h) ∙ (sym (length-dests subs (ring links nodes lens list)) ∙ ap (λ ds. length ds) (list_seen subs links nodes lens limit table e list))

-- there is room for as many nodes as the lists may have destinations
pub seen_room : (links tails lens : List ℕ) (subs : List SubNo) (nodes limit : ℕ) (free : Listed) → AreRings links tails lens subs nodes limit free → (table : DestTable) → table_of subs links nodes lens limit ≡ table → length table.lists * table.limit ≡ nodes
seen_room links tails lens subs nodes limit free a table e =
    ap (λ (t : DestTable). length t.lists * t.limit) (sym e)
    ∙ (ap (λ n. n * limit) (length-seen subs (rings links nodes lens) ∙ length-rings links nodes lens) ∙ sym a.room)

-- a destination that is shown is kept at a node
pub shown_exists : (subs : List SubNo) (nodes place : ℕ) (answer : Option Dest) (room : ℕ) → room ≡ nodes → answer ≡ shown subs nodes place → IfSome answer (λ dest. dest.0 < room)
shown_exists subs nodes place answer room e_room e =
    subst (λ d. IfSome d (λ dest. dest.0 < room)) (sym e) (by_case (ltb place nodes) refl)
  where
    low : ltb place nodes ≡ true → place < room
    low t = grind (arith, nat_tests)

    by_case : (b : Bool) → ltb place nodes ≡ b → IfSome (cond b (Some (dest_at subs place)) None) (λ dest. dest.0 < room)
    by_case true t = low t
    by_case false t = tt

-- a destination fewer, as a caller sees it
pub removes_seen : (subs : List SubNo) (lists lists' : List (List ℕ)) (list : ℕ) (sub : SubNo) → lists' ≡ set lists list (left_of subs sub (get_or lists list []))
    → dests_seen subs lists' ≡ set (dests_seen subs lists) list (without sub (get_or (dests_seen subs lists) list []))
removes_seen subs lists lists' list sub e =
    ap (dests_seen subs) e ∙ (seen-set subs lists list (left_of subs sub (get_or lists list []))
    ∙ (ap (set (dests_seen subs lists) list) (map-left subs sub (get_or lists list []))
    ∙ ap (λ ds. set (dests_seen subs lists) list (without sub ds)) (sym (get_or-seen subs lists list))))
