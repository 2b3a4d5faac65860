-- What the bridge may add to the journals of both sides: one message for each line that sends.
use Rattle.std.specs.Prelude.{◌+◌, ◌*◌, List, [], ◌∷◌, length}
use Rattle.fsw_base.specs.declared.config.Budget.{Budget}
use Rattle.script_lines.specs.declared.line.Line.{Line}
use Rattle.script_lines.specs.declared.line.Line.TheVariants.{Send, SendRaw, TransmitBuffer, Housekeeping}
use Rattle.script_settings.specs.declared.account.Account.{Account}
use Rattle.script_settings.specs.Accounts.{no_calls, charge_of, with_line}
use Rattle.app_script.specs.Script.{Application}
use Rattle.bridge_plan.specs.declared.budgets.Sends.{Sends}
use Rattle.bridge_plan.specs.Plan.{PlanText}

-- what a line sends behind lines of this account, if it sends: one message, of at most the bytes
-- that it is charged for; a housekeeping packet has 64
unfoldable pub sent_by : Account → Line → Sends
sent_by account (Send id size fill inc) =
    record { lines = 1; bytes = charge_of account (Send id size fill inc) }
sent_by account (SendRaw bytes inc) =
    record { lines = 1; bytes = charge_of account (SendRaw bytes inc) }
sent_by account (TransmitBuffer buf inc) =
    record { lines = 1; bytes = charge_of account (TransmitBuffer buf inc) }
sent_by account Housekeeping = record { lines = 1; bytes = 64 }
sent_by account line = record { lines = 0; bytes = 0 }

-- both together
abbrev pub together : Sends → Sends → Sends
together a b = record { lines = a.lines + b.lines; bytes = a.bytes + b.bytes }

-- what lines send behind lines of this account
abbrev pub sent_from : Account → List Line → Sends
sent_from account [] = record { lines = 0; bytes = 0 }
sent_from account (line ∷ lines) =
    together (sent_by account line) (sent_from (with_line account line) lines)

-- what the lines of all applications send
abbrev pub sends_of : List Application → Sends
sends_of [] = record { lines = 0; bytes = 0 }
sends_of (app ∷ apps) = together (sent_from no_calls app.lines) (sends_of apps)

-- on side 1: its pipe, a subscription a route, a wait and a look for each message and for the
-- time-out, and its end; and the six bytes of the pipe's name
abbrev pub budget_on_one_of : PlanText → Budget
budget_on_one_of plan =
    record {
      entries = 2 * (sends_of plan.one.apps).lines + length plan.routes + 4;
      bytes = 6;
      buffers = 0;
    }

-- on side 2: each message, and its end
abbrev pub budget_on_two_of : PlanText → Budget
budget_on_two_of plan =
    record {
      entries = (sends_of plan.one.apps).lines + 1;
      bytes = (sends_of plan.one.apps).bytes;
      buffers = 0;
    }
