use Rattle.std.proofs.Common.{IsTrue, refl, sym, subst}
use Rattle.bus_words.specs.declared.history.Call.TheVariants.{End}
use Rattle.bus_words.specs.Bus.{Standing}
use Rattle.bus_words.specs.Machine.{may_call}
use Rattle.sb_bridge.proofs.Asked.{may_plain}
use Rattle.sb_bridge.proofs.ends.end_ports.Goals as goal

pub end-requires-2-clause-may : goal.end-requires-2-clause-may
end-requires-2-clause-may g c =
    may_plain c.args.ports.port c.requires.own End (subst (λ (s : Standing). IsTrue (may_call s End)) (sym c.requires.active) refl) c.requires.room refl refl

pub returns : goal.returns
returns g c = record {
  last = c.end-2.new.self;
  answers = c.end-2.ensures.answers;
  mine = c.recall.ensures.mine;
  port = c.finish.ensures;
  last_at_tables = c.end.new.self;
  table_answers = c.end.ensures.answers;
  tables_port = c.finish-2.ensures;
}
