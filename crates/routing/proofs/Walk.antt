-- A walk along a list, to the place before the first node of a subscription.
use Rattle.std.proofs.Common.{◌≡◌, ℕ, ◌-◌, ◌<◌, ◌≤◌, suc, true, false, cond, List, ◌∷◌, length, get_or, refl, ap, sym, subst, ◌∙◌, arith}
use Rattle.bucket_list.specs.Lists.{times_in}
use Rattle.bucket_list.specs.Chains.{chain}
use Rattle.subscriptions.specs.declared.words.SubNo.{SubNo}
use Rattle.routing.specs.Inside.{place_before}
use Rattle.routing.proofs.Links.{is_of, first_in, behind_in}

-- the walk stands at a place with so many nodes left behind it: what it looks for is there, if it was in the list
pub record IsAt (links : List ℕ) (subs : List SubNo) (sub : SubNo) (anchor len before left : ℕ) : Type 0 where
  pub place : place_before subs sub anchor (chain links (get_or links anchor 0) len) ≡ place_before subs sub before (chain links (get_or links before 0) left)
  pub within : (node : ℕ) → 0 < times_in (chain links (get_or links before 0) left) node → node < length subs
  pub linked : before < length links

pub walk_start : (links : List ℕ) (subs : List SubNo) (sub : SubNo) (anchor len left : ℕ) → left ≡ len → ((node : ℕ) → 0 < times_in (chain links (get_or links anchor 0) len) node → node < length subs) → anchor < length links → IsAt links subs sub anchor len anchor left
walk_start links subs sub anchor len left e within linked =
    subst (IsAt links subs sub anchor len anchor) (sym e) (record { place = refl; within = within; linked = linked })

next_chain : (links : List ℕ) (first left : ℕ) → 0 < left → chain links first left ≡ first ∷ chain links (get_or links first 0) (left - 1)
next_chain links first left some = ap (chain links first) (one left some)
  where
    one : (n : ℕ) → 0 < n → n ≡ suc (n - 1)
    one n h = omega arith

module _ (links : List ℕ) (subs : List SubNo) (sub : SubNo) (anchor len before left node : ℕ) (a : IsAt links subs sub anchor len before left) (some : 0 < left) (e : node ≡ get_or links before 0) where
  here : chain links (get_or links before 0) left ≡ node ∷ chain links (get_or links node 0) (left - 1)
  here = next_chain links (get_or links before 0) left some ∙ ap (λ n. n ∷ chain links (get_or links n 0) (left - 1)) (sym e)

  pub walk_node : node < length subs
  walk_node = a.within node (subst (λ xs. 0 < times_in xs node) (sym here) (first_in node (chain links (get_or links node 0) (left - 1))))

  pub walk_found : is_of subs sub node ≡ true → before ≡ place_before subs sub anchor (chain links (get_or links anchor 0) len)
  walk_found is = sym (a.place ∙ (ap (place_before subs sub before) here ∙ ap (λ b. cond b before (place_before subs sub node (chain links (get_or links node 0) (left - 1)))) is))

  pub walk_on : (more : ℕ) → more ≡ left - 1 → is_of subs sub node ≡ false → length subs ≤ length links → IsAt links subs sub anchor len node more
  walk_on more e_more other long =
      let rest : place_before subs sub anchor (chain links (get_or links anchor 0) len) ≡ place_before subs sub node (chain links (get_or links node 0) (left - 1)) =
      a.place ∙ (ap (place_before subs sub before) here ∙ ap (λ b. cond b before (place_before subs sub node (chain links (get_or links node 0) (left - 1)))) other) in
      record {
        place = rest ∙ ap (λ n. place_before subs sub node (chain links (get_or links node 0) n)) (sym e_more);
        within = λ q h. a.within q (subst (λ xs. 0 < times_in xs q) (sym here) (behind_in node (chain links (get_or links node 0) (left - 1)) q (subst (λ n. 0 < times_in (chain links (get_or links node 0) n) q) e_more h)));
        linked = omega (arith, walk_node, long);
      }

pub walk_end : (links : List ℕ) (subs : List SubNo) (sub : SubNo) (anchor len before left : ℕ) → IsAt links subs sub anchor len before left → left ≡ 0 → before ≡ place_before subs sub anchor (chain links (get_or links anchor 0) len)
walk_end links subs sub anchor len before left a none = sym (a.place ∙ ap (λ n. place_before subs sub before (chain links (get_or links before 0) n)) none)
