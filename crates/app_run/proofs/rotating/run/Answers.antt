use Rattle.std.proofs.Common.{◌∙◌, ap, arith, length}
use Rattle.std.specs.List.{range_with_len}
use Rattle.std.proofs.lemmas.List.{length-map}
use Rattle.std.proofs.lemmas.List.FromFn.{length-range_with_len}
use Rattle.app_run.specs.Runners.{beginning}
use Rattle.app_run.specs.Rounds.{AllEquipped}
use Rattle.app_run.proofs.BagLaws.{hold-empty, held-nothing}
use Rattle.app_run.proofs.OpenLaws.{IsBegun, Finishes, finishes-from, from-begun, stands-from, as-many-from, as-many_held-from}
use Rattle.app_run.proofs.TurnLaws.{both}
use Rattle.app_run.proofs.rotating.run.Goals as goal

pub run_counted-requires-clause-stand : goal.run_counted-requires-clause-stand
run_counted-requires-clause-stand c =
    let script = c.args.script.now in
    let begun : IsBegun script (both c.args.services.bus c.args.services.tables) c.args.apps.runners.items c.args.apps.bags.items c.args.apps.held.items =
    record { bus = c.requires.bus; tables = c.requires.tables; runners = c.requires.runners; its_bags = c.requires.bags; its_helds = c.requires.held } in
    stands-from script c.args.services.bus c.args.services.tables c.args.apps.runners.items c.args.apps.bags.items c.args.apps.held.items c.requires.small c.requires.small_tables begun

pub run_counted-requires-clause-bags : goal.run_counted-requires-clause-bags
run_counted-requires-clause-bags c =
    let script = c.args.script.now in
    let begun : IsBegun script (both c.args.services.bus c.args.services.tables) c.args.apps.runners.items c.args.apps.bags.items c.args.apps.held.items =
    record { bus = c.requires.bus; tables = c.requires.tables; runners = c.requires.runners; its_bags = c.requires.bags; its_helds = c.requires.held } in
    from-begun (λ services runners bags helds. AllEquipped services bags helds) script c.args.services.bus c.args.services.tables c.args.apps.runners.items c.args.apps.bags.items c.args.apps.held.items begun
    (record { at_bus = hold-empty c.bags_stay.ensures.opens script 1 script.apps (omega arith); at_tables = held-nothing c.bags_stay-2.ensures.opens script 1 script.apps })

pub run_counted-requires-clause-as_many : goal.run_counted-requires-clause-as_many
run_counted-requires-clause-as_many c = as-many-from c.args.script.now c.args.apps.runners.items c.args.apps.bags.items c.requires.runners c.requires.bags

pub run_counted-requires-clause-as_many_held : goal.run_counted-requires-clause-as_many_held
run_counted-requires-clause-as_many_held c = as-many_held-from c.args.script.now c.args.apps.runners.items c.args.apps.held.items c.requires.runners c.requires.held

pub receipts_of-requires-clause-ended : goal.receipts_of-requires-clause-ended
receipts_of-requires-clause-ended c =
    let script = c.args.script.now in
    let begun : IsBegun script (both c.args.services.bus c.args.services.tables) c.args.apps.runners.items c.args.apps.bags.items c.args.apps.held.items =
    record { bus = c.requires.bus; tables = c.requires.tables; runners = c.requires.runners; its_bags = c.requires.bags; its_helds = c.requires.held } in
    let left : Finishes script (both c.run_counted.new.bus c.run_counted.new.tables) c.run_counted.new.runners.items =
    finishes-from script c.rotations_of-turns.result c.args.services.bus c.args.services.tables (both c.run_counted.new.bus c.run_counted.new.tables) c.args.apps.runners.items c.run_counted.new.runners.items
    c.args.apps.bags.items c.run_counted.new.bags.items c.args.apps.held.items c.run_counted.new.held.items begun c.rotations_of-turns.ensures c.run_counted.ensures.as_many
    c.run_counted.ensures.as_many_held c.run_counted.ensures.rotates in
    left.ended

pub receipts_of-requires-clause-room : goal.receipts_of-requires-clause-room
receipts_of-requires-clause-room c =
    let script = c.args.script.now in
    omega (
      arith,
      c.run_counted.ensures.runners,
      ap length c.requires.runners,
      length-map (range_with_len 1 (length script.apps)) (beginning script),
      length-range_with_len 1 (length script.apps),
      c.requires.room,
    )

pub returns-clause-history : goal.returns-clause-history
returns-clause-history c =
    let script = c.args.script.now in
    let begun : IsBegun script (both c.args.services.bus c.args.services.tables) c.args.apps.runners.items c.args.apps.bags.items c.args.apps.held.items =
    record { bus = c.requires.bus; tables = c.requires.tables; runners = c.requires.runners; its_bags = c.requires.bags; its_helds = c.requires.held } in
    let left : Finishes script (both c.run_counted.new.bus c.run_counted.new.tables) c.run_counted.new.runners.items =
    finishes-from script c.rotations_of-turns.result c.args.services.bus c.args.services.tables (both c.run_counted.new.bus c.run_counted.new.tables) c.args.apps.runners.items c.run_counted.new.runners.items
    c.args.apps.bags.items c.run_counted.new.bags.items c.args.apps.held.items c.run_counted.new.held.items begun c.rotations_of-turns.ensures c.run_counted.ensures.as_many
    c.run_counted.ensures.as_many_held c.run_counted.ensures.rotates in
    left.history

pub returns-clause-table_history : goal.returns-clause-table_history
returns-clause-table_history c =
    let script = c.args.script.now in
    let begun : IsBegun script (both c.args.services.bus c.args.services.tables) c.args.apps.runners.items c.args.apps.bags.items c.args.apps.held.items =
    record { bus = c.requires.bus; tables = c.requires.tables; runners = c.requires.runners; its_bags = c.requires.bags; its_helds = c.requires.held } in
    let left : Finishes script (both c.run_counted.new.bus c.run_counted.new.tables) c.run_counted.new.runners.items =
    finishes-from script c.rotations_of-turns.result c.args.services.bus c.args.services.tables (both c.run_counted.new.bus c.run_counted.new.tables) c.args.apps.runners.items c.run_counted.new.runners.items
    c.args.apps.bags.items c.run_counted.new.bags.items c.args.apps.held.items c.run_counted.new.held.items begun c.rotations_of-turns.ensures c.run_counted.ensures.as_many
    c.run_counted.ensures.as_many_held c.run_counted.ensures.rotates in
    left.table_history

pub returns-clause-limits : goal.returns-clause-limits
returns-clause-limits c =
    let script = c.args.script.now in
    let begun : IsBegun script (both c.args.services.bus c.args.services.tables) c.args.apps.runners.items c.args.apps.bags.items c.args.apps.held.items =
    record { bus = c.requires.bus; tables = c.requires.tables; runners = c.requires.runners; its_bags = c.requires.bags; its_helds = c.requires.held } in
    let left : Finishes script (both c.run_counted.new.bus c.run_counted.new.tables) c.run_counted.new.runners.items =
    finishes-from script c.rotations_of-turns.result c.args.services.bus c.args.services.tables (both c.run_counted.new.bus c.run_counted.new.tables) c.args.apps.runners.items c.run_counted.new.runners.items
    c.args.apps.bags.items c.run_counted.new.bags.items c.args.apps.held.items c.run_counted.new.held.items begun c.rotations_of-turns.ensures c.run_counted.ensures.as_many
    c.run_counted.ensures.as_many_held c.run_counted.ensures.rotates in
    left.limits

pub returns-clause-table_limits : goal.returns-clause-table_limits
returns-clause-table_limits c =
    let script = c.args.script.now in
    let begun : IsBegun script (both c.args.services.bus c.args.services.tables) c.args.apps.runners.items c.args.apps.bags.items c.args.apps.held.items =
    record { bus = c.requires.bus; tables = c.requires.tables; runners = c.requires.runners; its_bags = c.requires.bags; its_helds = c.requires.held } in
    let left : Finishes script (both c.run_counted.new.bus c.run_counted.new.tables) c.run_counted.new.runners.items =
    finishes-from script c.rotations_of-turns.result c.args.services.bus c.args.services.tables (both c.run_counted.new.bus c.run_counted.new.tables) c.args.apps.runners.items c.run_counted.new.runners.items
    c.args.apps.bags.items c.run_counted.new.bags.items c.args.apps.held.items c.run_counted.new.held.items begun c.rotations_of-turns.ensures c.run_counted.ensures.as_many
    c.run_counted.ensures.as_many_held c.run_counted.ensures.rotates in
    left.table_limits

pub returns-clause-apps : goal.returns-clause-apps
returns-clause-apps c =
    let script = c.args.script.now in
    let begun : IsBegun script (both c.args.services.bus c.args.services.tables) c.args.apps.runners.items c.args.apps.bags.items c.args.apps.held.items =
    record { bus = c.requires.bus; tables = c.requires.tables; runners = c.requires.runners; its_bags = c.requires.bags; its_helds = c.requires.held } in
    let left : Finishes script (both c.run_counted.new.bus c.run_counted.new.tables) c.run_counted.new.runners.items =
    finishes-from script c.rotations_of-turns.result c.args.services.bus c.args.services.tables (both c.run_counted.new.bus c.run_counted.new.tables) c.args.apps.runners.items c.run_counted.new.runners.items
    c.args.apps.bags.items c.run_counted.new.bags.items c.args.apps.held.items c.run_counted.new.held.items begun c.rotations_of-turns.ensures c.run_counted.ensures.as_many
    c.run_counted.ensures.as_many_held c.run_counted.ensures.rotates in
    left.apps

pub returns-clause-table_apps : goal.returns-clause-table_apps
returns-clause-table_apps c =
    let script = c.args.script.now in
    let begun : IsBegun script (both c.args.services.bus c.args.services.tables) c.args.apps.runners.items c.args.apps.bags.items c.args.apps.held.items =
    record { bus = c.requires.bus; tables = c.requires.tables; runners = c.requires.runners; its_bags = c.requires.bags; its_helds = c.requires.held } in
    let left : Finishes script (both c.run_counted.new.bus c.run_counted.new.tables) c.run_counted.new.runners.items =
    finishes-from script c.rotations_of-turns.result c.args.services.bus c.args.services.tables (both c.run_counted.new.bus c.run_counted.new.tables) c.args.apps.runners.items c.run_counted.new.runners.items
    c.args.apps.bags.items c.run_counted.new.bags.items c.args.apps.held.items c.run_counted.new.held.items begun c.rotations_of-turns.ensures c.run_counted.ensures.as_many
    c.run_counted.ensures.as_many_held c.run_counted.ensures.rotates in
    left.table_apps

pub returns-clause-receipts : goal.returns-clause-receipts
returns-clause-receipts c =
    let script = c.args.script.now in
    let begun : IsBegun script (both c.args.services.bus c.args.services.tables) c.args.apps.runners.items c.args.apps.bags.items c.args.apps.held.items =
    record { bus = c.requires.bus; tables = c.requires.tables; runners = c.requires.runners; its_bags = c.requires.bags; its_helds = c.requires.held } in
    let left : Finishes script (both c.run_counted.new.bus c.run_counted.new.tables) c.run_counted.new.runners.items =
    finishes-from script c.rotations_of-turns.result c.args.services.bus c.args.services.tables (both c.run_counted.new.bus c.run_counted.new.tables) c.args.apps.runners.items c.run_counted.new.runners.items
    c.args.apps.bags.items c.run_counted.new.bags.items c.args.apps.held.items c.run_counted.new.held.items begun c.rotations_of-turns.ensures c.run_counted.ensures.as_many
    c.run_counted.ensures.as_many_held c.run_counted.ensures.rotates in
    c.receipts_of.ensures ∙ left.receipts
