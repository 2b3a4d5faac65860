use Rattle.std.proofs.Common.{◌≡◌, ◌+◌, ◌<◌, length, refl, ap, sym, ◌∙◌, subst, arith}
use Rattle.std.proofs.lemmas.List.{length-set}
use Rattle.std.proofs.lemmas.List.Elements.{All-get_or}
use Rattle.sb_calls.specs.Bags.{HasBag}
use Rattle.tbl_load.specs.Bags.{HasBag as HasTableBag}
use Rattle.app_run.specs.Rounds.{AreTurned, equipped}
use Rattle.app_run.specs.Runners.{Equipped}
use Rattle.app_run.specs.Turns.{IsUnderWay}
use Rattle.app_run.proofs.BagLaws.{hold-at, hold-set, steps-bags, held-at, held-set, steps-helds}
use Rattle.app_run.proofs.RoundLaws.{turned-none, turned-one, turned-all, numbered-at, equipped-at, equipped-set, length-equipped, the_equipped}
use Rattle.app_run.proofs.TurnLaws.{both}
use Rattle.app_run.proofs.rotating.rotate.Goals as goal

pub loop-i-init : goal.loop-i-init
loop-i-init g c = (
  turned-none (both c.args.bus.now c.args.tables.now) (equipped c.args.runners.now.items c.args.bags.now.items c.args.held.now.items) c.requires.stand,
  c.requires.bags,
  refl,
  refl,
  refl,
)

pub take_turn-requires-clause-way : goal.take_turn-requires-clause-way
take_turn-requires-clause-way g c =
    let runners = c.loop-i.runners.items in
    let bags = c.loop-i.bags.items in
    let helds = c.loop-i.held.items in
    let services = both c.loop-i.bus c.loop-i.tables in
    let within : c.loop-i.i < length runners =
    omega (arith, c.loop-i-test.true, c.len-i-end.ensures, c.loop-i.invariant.4, c.args.runners.now.ok, c.loop-i.runners.ok) in
    let as_many : length bags ≡ length runners = c.loop-i.invariant.2 ∙ c.requires.as_many ∙ sym c.loop-i.invariant.4 in
    let as_many_held : length helds ≡ length runners = c.loop-i.invariant.3 ∙ c.requires.as_many_held ∙ sym c.loop-i.invariant.4 in
    let one = the_equipped c.index_mut.result.now c.index_mut-in-loop-i.result.now c.index_mut-in-loop-i-2.result.now in
    subst (λ p. IsUnderWay p services)
    (sym (equipped-at runners bags helds c.loop-i.i c.index_mut.result.now c.index_mut-in-loop-i.result.now c.index_mut-in-loop-i-2.result.now one within as_many as_many_held
    c.index_mut.ensures.value c.index_mut-in-loop-i.ensures.value c.index_mut-in-loop-i-2.ensures.value))
    (All-get_or (λ p. IsUnderWay p services) (equipped runners bags helds) c.loop-i.i one (omega (arith, within, length-equipped runners bags helds as_many as_many_held)) c.loop-i.invariant.0.stand.each)

pub take_turn-requires-clause-bag : goal.take_turn-requires-clause-bag
take_turn-requires-clause-bag g c =
    let runners = c.loop-i.runners.items in
    let bags = c.loop-i.bags.items in
    let helds = c.loop-i.held.items in
    let within : c.loop-i.i < length runners =
    omega (arith, c.loop-i-test.true, c.len-i-end.ensures, c.loop-i.invariant.4, c.args.runners.now.ok, c.loop-i.runners.ok) in
    let as_many : length bags ≡ length runners = c.loop-i.invariant.2 ∙ c.requires.as_many ∙ sym c.loop-i.invariant.4 in
    let as_many_held : length helds ≡ length runners = c.loop-i.invariant.3 ∙ c.requires.as_many_held ∙ sym c.loop-i.invariant.4 in
    let one = the_equipped c.index_mut.result.now c.index_mut-in-loop-i.result.now c.index_mut-in-loop-i-2.result.now in
    let at = equipped-at runners bags helds c.loop-i.i c.index_mut.result.now c.index_mut-in-loop-i.result.now c.index_mut-in-loop-i-2.result.now one within as_many as_many_held
    c.index_mut.ensures.value c.index_mut-in-loop-i.ensures.value c.index_mut-in-loop-i-2.ensures.value in
    let number : c.index_mut.result.now.running.app ≡ 1 + c.loop-i.i =
    ap (λ (p : Equipped). p.progress.running.app) at
    ∙ numbered-at 1 c.loop-i.i (equipped runners bags helds) one c.loop-i.invariant.0.stand.numbered (omega (arith, within, length-equipped runners bags helds as_many as_many_held)) in
    subst (λ app. HasBag c.loop-i.bus app c.index_mut-in-loop-i.result.now) (sym number)
    (subst (λ bag. HasBag c.loop-i.bus (1 + c.loop-i.i) bag) (sym c.index_mut-in-loop-i.ensures.value)
    (hold-at c.loop-i.bus 1 c.loop-i.i bags c.index_mut-in-loop-i.result.now c.loop-i.invariant.1.at_bus (omega (arith, within, as_many))))

pub take_turn-requires-clause-held : goal.take_turn-requires-clause-held
take_turn-requires-clause-held g c =
    let runners = c.loop-i.runners.items in
    let bags = c.loop-i.bags.items in
    let helds = c.loop-i.held.items in
    let within : c.loop-i.i < length runners =
    omega (arith, c.loop-i-test.true, c.len-i-end.ensures, c.loop-i.invariant.4, c.args.runners.now.ok, c.loop-i.runners.ok) in
    let as_many : length bags ≡ length runners = c.loop-i.invariant.2 ∙ c.requires.as_many ∙ sym c.loop-i.invariant.4 in
    let as_many_held : length helds ≡ length runners = c.loop-i.invariant.3 ∙ c.requires.as_many_held ∙ sym c.loop-i.invariant.4 in
    let one = the_equipped c.index_mut.result.now c.index_mut-in-loop-i.result.now c.index_mut-in-loop-i-2.result.now in
    let at = equipped-at runners bags helds c.loop-i.i c.index_mut.result.now c.index_mut-in-loop-i.result.now c.index_mut-in-loop-i-2.result.now one within as_many as_many_held
    c.index_mut.ensures.value c.index_mut-in-loop-i.ensures.value c.index_mut-in-loop-i-2.ensures.value in
    let number : c.index_mut.result.now.running.app ≡ 1 + c.loop-i.i =
    ap (λ (p : Equipped). p.progress.running.app) at
    ∙ numbered-at 1 c.loop-i.i (equipped runners bags helds) one c.loop-i.invariant.0.stand.numbered (omega (arith, within, length-equipped runners bags helds as_many as_many_held)) in
    subst (λ app. HasTableBag c.loop-i.tables app c.index_mut-in-loop-i-2.result.now) (sym number)
    (subst (λ held. HasTableBag c.loop-i.tables (1 + c.loop-i.i) held) (sym c.index_mut-in-loop-i-2.ensures.value)
    (held-at c.loop-i.tables 1 c.loop-i.i helds c.index_mut-in-loop-i-2.result.now c.loop-i.invariant.1.at_tables (omega (arith, within, as_many_held))))

pub loop-i-preserved : goal.loop-i-preserved
loop-i-preserved g c =
    let runners = c.loop-i.runners.items in
    let bags = c.loop-i.bags.items in
    let helds = c.loop-i.held.items in
    let services = both c.loop-i.bus c.loop-i.tables in
    let after = both c.take_turn.new.bus c.take_turn.new.tables in
    let first = equipped c.args.runners.now.items c.args.bags.now.items c.args.held.now.items in
    let within : c.loop-i.i < length runners =
    omega (arith, c.loop-i-test.true, c.len-i-end.ensures, c.loop-i.invariant.4, c.args.runners.now.ok, c.loop-i.runners.ok) in
    let as_many : length bags ≡ length runners = c.loop-i.invariant.2 ∙ c.requires.as_many ∙ sym c.loop-i.invariant.4 in
    let as_many_held : length helds ≡ length runners = c.loop-i.invariant.3 ∙ c.requires.as_many_held ∙ sym c.loop-i.invariant.4 in
    let old = the_equipped c.index_mut.result.now c.index_mut-in-loop-i.result.now c.index_mut-in-loop-i-2.result.now in
    let new = the_equipped c.take_turn.new.runner c.take_turn.new.bag c.take_turn.new.held in
    let at = equipped-at runners bags helds c.loop-i.i c.index_mut.result.now c.index_mut-in-loop-i.result.now c.index_mut-in-loop-i-2.result.now old within as_many as_many_held
    c.index_mut.ensures.value c.index_mut-in-loop-i.ensures.value c.index_mut-in-loop-i-2.ensures.value in
    let inside : c.loop-i.i < length (equipped runners bags helds) = omega (arith, within, length-equipped runners bags helds as_many as_many_held) in
    let number : c.index_mut.result.now.running.app ≡ 1 + c.loop-i.i =
    ap (λ (p : Equipped). p.progress.running.app) at ∙ numbered-at 1 c.loop-i.i (equipped runners bags helds) old c.loop-i.invariant.0.stand.numbered inside in (
      subst (λ all. AreTurned (c.loop-i.i + 1) (both c.args.bus.now c.args.tables.now) first after all)
          (sym (equipped-set runners bags helds c.loop-i.i c.take_turn.new.runner c.take_turn.new.bag c.take_turn.new.held))
          (turned-one c.loop-i.i (both c.args.bus.now c.args.tables.now) first services after (equipped runners bags helds) old new
          c.loop-i.invariant.0 inside at c.take_turn.ensures.moves),
      record {
        at_bus = hold-set c.loop-i.bus c.take_turn.new.bus c.index_mut.result.now.running.app
            (steps-bags c.bags_stay.ensures.other_bags c.index_mut.result.now.ended old new services after c.take_turn.ensures.moves) 1 c.loop-i.i bags c.take_turn.new.bag number
            c.loop-i.invariant.1.at_bus c.take_turn.ensures.bag;
        at_tables = held-set c.loop-i.tables c.take_turn.new.tables c.index_mut.result.now.running.app
            (steps-helds c.bags_stay-2.ensures.other_bags c.index_mut.result.now.ended old new services after c.take_turn.ensures.moves) 1 c.loop-i.i helds c.take_turn.new.held number
            c.loop-i.invariant.1.at_tables c.take_turn.ensures.held;
      },
      length-set bags c.loop-i.i c.take_turn.new.bag ∙ c.loop-i.invariant.2,
      length-set helds c.loop-i.i c.take_turn.new.held ∙ c.loop-i.invariant.3,
      length-set runners c.loop-i.i c.take_turn.new.runner ∙ c.loop-i.invariant.4,
    )

pub returns-clause-rotates : goal.returns-clause-rotates
returns-clause-rotates g c =
    let runners = c.loop-i.runners.items in
    let bags = c.loop-i.bags.items in
    let helds = c.loop-i.held.items in
    let as_many : length bags ≡ length runners = c.loop-i.invariant.2 ∙ c.requires.as_many ∙ sym c.loop-i.invariant.4 in
    let as_many_held : length helds ≡ length runners = c.loop-i.invariant.3 ∙ c.requires.as_many_held ∙ sym c.loop-i.invariant.4 in
    turned-all c.loop-i.i (both c.args.bus.now c.args.tables.now) (equipped c.args.runners.now.items c.args.bags.now.items c.args.held.now.items)
    (both c.loop-i.bus c.loop-i.tables) (equipped runners bags helds) c.loop-i.invariant.0
    (omega (arith, length-equipped runners bags helds as_many as_many_held, c.loop-i-test.false, c.len-i-end.ensures, c.loop-i.invariant.4, c.args.runners.now.ok, c.loop-i.runners.ok))
