-- Generated scripts: what four applications do, drawn from a number.
use Rattle.std.specs.Prelude.{ℕ, zero, suc, ◌+◌, ◌%◌, ◌==◌, true, List, [], ◌∷◌, ◌++◌, codes, decimal, if◌then◌else◌}
use Rattle.fsw_base.specs.Limits.{usual_limits}
use Rattle.fsw_base.specs.declared.config.Scope.TheVariants.{Global}
use Rattle.script_lines.specs.declared.line.Line.{Line}
use Rattle.script_lines.specs.declared.line.Line.TheVariants.{Create, Subscribe, Send, Receive, Allocate, Form, TransmitBuffer}
use Rattle.app_script.specs.Script.{Application, ScriptText}
use Rattle.script_text.specs.declared.draws.Draft.{Draft}
use Rattle.script_text.specs.declared.draws.Kind.{Kind}
use Rattle.script_text.specs.declared.draws.Kind.TheVariants as kind
use Rattle.script_text.specs.Draws.{Drawing, done, ◌>>=◌, draw, first_number}

-- the message id that an application's number stands for: 0x0800 and the number
abbrev pub id_of : ℕ → ℕ
id_of app = 2048 + app

-- A message is drawn: whose id it has, of the four applications, then its size, then its first
-- payload byte.
unfoldable pub draft : Drawing Draft
draft = do
  app ← draw 4
  more ← draw 58
  fill ← draw 256
  done (record { id = id_of (1 + app); size = 7 + more; fill = fill })

-- the kind of action that a number stands for: one of four sends, one sends a buffer, the other two
-- receive
abbrev pub kind_of : ℕ → Kind
kind_of number =
    if number == 0 then kind.Send else (if number == 2 then kind.SendBuffer else kind.Receive)

-- the lines of an action: a message is sent; or it is made in a buffer, which is sent without a
-- copy; or one is received
unfoldable pub action_of : Kind → Drawing (List Line)
action_of kind.Send = do
  message ← draft
  done (Send message.id message.size message.fill true ∷ [])
action_of kind.SendBuffer = do
  message ← draft
  done (Allocate 0 message.size ∷ Form 0 message.id message.fill ∷ TransmitBuffer 0 true ∷ [])
action_of kind.Receive = done (Receive 0 ∷ [])

-- an action: its kind is drawn first
unfoldable pub action : Drawing (List Line)
action = do
  number ← draw 4
  action_of (kind_of number)

-- so many actions, one after the other
unfoldable pub actions : ℕ → Drawing (List Line)
actions zero = done []
actions (suc count) = do
  first ← action
  others ← actions count
  done (first ++ others)

-- the lines before the actions: a pipe, and its subscriptions to the application's own id and to
-- that of the next one, which for the fourth is the first
unfoldable pub first_lines : ℕ → List Line
first_lines app =
    Create 0 8 (codes "P" ++ decimal app)
    ∷ Subscribe (id_of app) 0 4 Global
    ∷ Subscribe (id_of (app % 4 + 1)) 0 4 Global
    ∷ []

-- the application of this number
unfoldable pub application : ℕ → Drawing Application
application app = do
  lines ← actions 250
  done (record { name = codes "G" ++ decimal app; lines = first_lines app ++ lines })

-- so many applications, one after the other, the first with this number
unfoldable pub applications : ℕ → ℕ → Drawing (List Application)
applications app zero = done []
applications app (suc count) = do
  first ← application app
  others ← applications (app + 1) count
  done (first ∷ others)

-- The script of a number: four applications, under the usual limits.
unfoldable pub generated : ℕ → ScriptText
generated script =
    record { limits = usual_limits; apps = (applications 1 4 (first_number script)).0 }
