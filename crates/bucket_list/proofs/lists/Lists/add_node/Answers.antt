use Rattle.std.proofs.Common.{ℕ, List, ◌+◌, ◌∙◌, ap, sym, subst, arith}
use Rattle.bucket_list.specs.Lists.{Listed, NodeRow, times}
use Rattle.bucket_list.specs.Inside.{chains, AreLinked}
use Rattle.bucket_list.proofs.Chains.{chains-more}
use Rattle.bucket_list.proofs.ListInvariant.{linked-more}
use Rattle.bucket_list.proofs.lists.Lists.add_node.Goals as goal

pub add_place-requires : goal.add_place-requires
add_place-requires c =
    omega (arith, c.requires, c.self.invariant.0.links_all, ap (λ v. v.nodes) c.self.view_is, ap (λ v. v.room) c.self.view_is)

pub invariant_of-self : goal.invariant_of-self
invariant_of-self c =
    let s = c.self.inside in (
      subst (λ (links : List ℕ). AreLinked links s.heads s.counts.items (s.nodes + 1)) (sym (ap (λ (r : NodeRow). r.links) c.add_place.ensures))
          (linked-more s.links.links s.heads s.counts.items s.nodes c.self.invariant.0
          (omega (arith, c.requires, c.self.invariant.1, ap (λ v. v.nodes) c.self.view_is, ap (λ v. v.room) c.self.view_is))),
      omega (arith, c.self.invariant.1, ap (λ (r : NodeRow). r.room) c.add_place.ensures),
    )

pub returns-clause-after : goal.returns-clause-after
returns-clause-after c =
    let s = c.self.inside in
    let listed : ℕ → List (List ℕ) → Listed = λ room lists. record { room = room; nodes = s.nodes + 1; lists = lists } in
    ap (λ (r : NodeRow). listed r.room (chains r.links s.heads s.counts.items)) c.add_place.ensures
    ∙ (ap (listed s.links.room) (chains-more s.links.links s.heads s.counts.items)
    ∙ ap (λ (v : Listed). let w : Listed = record { room = v.room; nodes = v.nodes + 1; lists = v.lists } in w) c.self.view_is)

pub returns-clause-loose : goal.returns-clause-loose
returns-clause-loose c =
    let s = c.self.inside in
    ap (λ (r : NodeRow). times (chains r.links s.heads s.counts.items) s.nodes) c.add_place.ensures
    ∙ (ap (λ xs. times xs s.nodes) (chains-more s.links.links s.heads s.counts.items)
    ∙ c.self.invariant.0.exist s.nodes (omega arith))
