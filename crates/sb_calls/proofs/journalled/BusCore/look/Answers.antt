use Rattle.std.proofs.Common.{sym, ◌∙◌, subst}
use Rattle.bus_words.specs.Bus.{standing_of, waited_on}
use Rattle.bus_words.specs.declared.history.Call.TheVariants.{Look}
use Rattle.sb_calls.specs.Answers.{waited}
use Rattle.sb_calls.specs.Core.{MayCall, Looks, state_of}
use Rattle.sb_calls.specs.Inside.{core_of, Stands}
use Rattle.sb_calls.proofs.PipeMessages.{looked_alone}
use Rattle.sb_calls.proofs.CoreBags.{bag_in, bag_out}
use Rattle.sb_calls.proofs.Looks.{pending_is, looks-still, makes_look, looks-found, waited_here}
use Rattle.sb_calls.proofs.CallEffects.{looks_own, made_look}
use Rattle.sb_calls.proofs.OthersBags.{others_looked}
use Rattle.sb_calls.proofs.EntryLemma.{may_act, few_sends, stands_over, does_over}
use Rattle.sb_calls.proofs.journalled.BusCore.look.Goals as goal

pub pipe_waited_on-pipe-requires : goal.pipe_waited_on-pipe-requires
pipe_waited_on-pipe-requires c =
    (may_act c.self.inside c.args.self.now c.args.app (Look (waited_on (standing_of (state_of c.args.self.now) c.args.app))) c.self.view_is c.self.invariant c.requires.may).known

pub look-result-requires : goal.look-result-requires
look-result-requires c =
    let same = c.pipe_waited_on-pipe.ensures ∙ waited_here c.self.inside c.args.self.now c.args.app c.self.view_is c.self.invariant in
    record {
      may = may_act c.self.inside c.args.self.now c.args.app (Look c.pipe_waited_on-pipe.result) c.self.view_is c.self.invariant (subst (λ p. MayCall c.args.self.now c.args.app (Look p)) (sym same) c.requires.may);
      few = few_sends c.self.inside c.args.self.now c.args.app (Look c.pipe_waited_on-pipe.result) c.self.view_is c.self.invariant (subst (λ p. MayCall c.args.self.now c.args.app (Look p)) (sym same) c.requires.may);
      bag = bag_in c.self.inside c.args.self.now c.args.app c.args.held.now c.self.view_is c.self.invariant c.requires.bag;
    }

pub invariant_of-self : goal.invariant_of-self
invariant_of-self c =
    let still = c.look-result.ensures.still (pending_is c.look-result.result (sym c.is_pending.ensures ∙ c.if-is_pending.true)) in
    subst (λ core. Stands (record c.self.inside { core = core })) (sym still) c.self.invariant

pub returns-then-is_pending-clause-looks : goal.returns-then-is_pending-clause-looks
returns-then-is_pending-clause-looks c =
    let same = c.pipe_waited_on-pipe.ensures ∙ waited_here c.self.inside c.args.self.now c.args.app c.self.view_is c.self.invariant in
    let pending = sym c.is_pending.ensures ∙ c.if-is_pending.true in
    subst (λ p. Looks c.args.self.now (core_of (record c.self.inside { core = c.look-result.new.core })) c.args.app p c.look-result.result) same
    (looks-still c.self.inside c.look-result.new.core c.args.self.now c.args.app c.pipe_waited_on-pipe.result c.look-result.result c.self.view_is c.self.invariant
    pending (c.look-result.ensures.still (pending_is c.look-result.result pending)) c.look-result.ensures.does)

pub returns-then-is_pending-clause-bag : goal.returns-then-is_pending-clause-bag
returns-then-is_pending-clause-bag c =
    bag_out (record c.self.inside { core = c.look-result.new.core }) c.args.app c.look-result.new.held (invariant_of-self c) c.look-result.ensures.bag

pub invariant_of-self-2 : goal.invariant_of-self-2
invariant_of-self-2 c =
    let same = c.pipe_waited_on-pipe.ensures ∙ waited_here c.self.inside c.args.self.now c.args.app c.self.view_is c.self.invariant in
    let may = subst (λ p. MayCall c.args.self.now c.args.app (Look p)) (sym same) c.requires.may in
    stands_over c.self.inside c.look-result.new.core c.push.new.self c.args.self.now c.args.app (Look c.pipe_waited_on-pipe.result) (waited c.look-result.result) c.self.view_is c.self.invariant may
    (made_look c.self.inside c.look-result.new.core c.push.new.self c.args.app c.pipe_waited_on-pipe.result (waited c.look-result.result) c.told-answer.result c.note_of-note.result c.look-result.new.held c.look-result.ensures.bag
    (may_act c.self.inside c.args.self.now c.args.app (Look c.pipe_waited_on-pipe.result) c.self.view_is c.self.invariant may).standing
    (makes_look c.pipe_waited_on-pipe.result c.look-result.result (sym c.is_pending.ensures ∙ c.if-is_pending.false)) (record {
      stands = c.self.invariant;
      acts = c.look-result.ensures.does;
      as_told = c.told-answer.ensures;
      loans = c.look-result.ensures.loans;
      descs = c.look-result.ensures.descs;
      unowned = looks_own c.self.inside c.look-result.new.core c.args.app c.pipe_waited_on-pipe.result c.self.invariant
          (may_act c.self.inside c.args.self.now c.args.app (Look c.pipe_waited_on-pipe.result) c.self.view_is c.self.invariant may).standing;
      pushed = c.push.ensures;
    }) c.note_of-note.ensures)

pub returns-clause-looks : goal.returns-clause-looks
returns-clause-looks c =
    let same = c.pipe_waited_on-pipe.ensures ∙ waited_here c.self.inside c.args.self.now c.args.app c.self.view_is c.self.invariant in
    let may = subst (λ p. MayCall c.args.self.now c.args.app (Look p)) (sym same) c.requires.may in
    let found = sym c.is_pending.ensures ∙ c.if-is_pending.false in
    let next = core_of (record { core = c.look-result.new.core; noted = c.push.new.self }) in
    subst (λ p. Looks c.args.self.now next c.args.app p c.look-result.result) same
    (looks-found c.args.self.now next c.args.app c.pipe_waited_on-pipe.result c.look-result.result found
    (does_over c.self.inside c.look-result.new.core c.push.new.self c.args.self.now c.args.app (Look c.pipe_waited_on-pipe.result) (waited c.look-result.result) c.self.view_is c.self.invariant may
    (made_look c.self.inside c.look-result.new.core c.push.new.self c.args.app c.pipe_waited_on-pipe.result (waited c.look-result.result) c.told-answer.result c.note_of-note.result c.look-result.new.held c.look-result.ensures.bag
    (may_act c.self.inside c.args.self.now c.args.app (Look c.pipe_waited_on-pipe.result) c.self.view_is c.self.invariant may).standing
    (makes_look c.pipe_waited_on-pipe.result c.look-result.result found) (record {
      stands = c.self.invariant;
      acts = c.look-result.ensures.does;
      as_told = c.told-answer.ensures;
      loans = c.look-result.ensures.loans;
      descs = c.look-result.ensures.descs;
      unowned = looks_own c.self.inside c.look-result.new.core c.args.app c.pipe_waited_on-pipe.result c.self.invariant
          (may_act c.self.inside c.args.self.now c.args.app (Look c.pipe_waited_on-pipe.result) c.self.view_is c.self.invariant may).standing;
      pushed = c.push.ensures;
    }) c.note_of-note.ensures)))

pub returns-clause-bag : goal.returns-clause-bag
returns-clause-bag c =
    bag_out (record { core = c.look-result.new.core; noted = c.push.new.self }) c.args.app c.look-result.new.held (invariant_of-self-2 c) c.look-result.ensures.bag

pub returns-clause-alone : goal.returns-clause-alone
returns-clause-alone c = λ number is.
    looked_alone c.args.self.now _ c.args.app (waited_on (standing_of (state_of c.args.self.now) c.args.app)) c.look-result.result c.look-result.new.held number is (returns-clause-looks c) (returns-clause-bag c)

pub returns-then-is_pending-clause-other_bags : goal.returns-then-is_pending-clause-other_bags
returns-then-is_pending-clause-other_bags c =
    others_looked c.args.self.now _ c.args.app (waited_on (standing_of (state_of c.args.self.now) c.args.app)) c.look-result.result (returns-then-is_pending-clause-looks c)

pub returns-clause-other_bags : goal.returns-clause-other_bags
returns-clause-other_bags c = others_looked c.args.self.now _ c.args.app (waited_on (standing_of (state_of c.args.self.now) c.args.app)) c.look-result.result (returns-clause-looks c)
