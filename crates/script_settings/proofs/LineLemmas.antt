-- What holds of the lines that a match leaves over.
use Rattle.std.proofs.Common.{◌≡◌, ℕ, Bool, List, refl}
use Rattle.fsw_base.specs.declared.events.EventKind.{EventKind}
use Rattle.tbl_rules.specs.declared.rules.Rule.{Rule}
use Rattle.script_words.specs.declared.content.Content.{Content}
use Rattle.script_settings.specs.declared.account.Account.{Account}
use Rattle.script_lines.specs.declared.line.Line.{Line}
use Rattle.script_lines.specs.declared.line.Line.TheVariants.{Create, Find, Send, SendRaw, Pend, Allocate, TransmitBuffer, SendEvent, TableRegister, TableShare, Stage, Load}
use Rattle.script_settings.specs.Accounts.{charge_of, waits_of, buffers_of, sizes_after}

pub waits_default : (line : Line) → ((pipe : ℕ) → line ≡ Pend pipe → ⊥) → 0 ≡ waits_of line
unfolding waits_of
waits_default (Pend pipe) never = absurd (never pipe refl)
waits_default line never = refl

pub buffers_default : (line : Line) → ((buf size : ℕ) → line ≡ Allocate buf size → ⊥) → 0 ≡ buffers_of line
unfolding buffers_of
buffers_default (Allocate buf size) never = absurd (never buf size refl)
buffers_default line never = refl

pub sizes_default : (sizes : List ℕ) (line : Line) → ((buf size : ℕ) → line ≡ Allocate buf size → ⊥) → sizes ≡ sizes_after sizes line
unfolding sizes_after
sizes_default sizes (Allocate buf size) never = absurd (never buf size refl)
sizes_default sizes line never = refl

-- a line that is none of those with a charge
pub record IsFree (line : Line) : Type 0 where
  pub create : (pipe depth : ℕ) (name : List ℕ) → line ≡ Create pipe depth name → ⊥
  pub find : (pipe : ℕ) (name : List ℕ) → line ≡ Find pipe name → ⊥
  pub send : (id size fill : ℕ) (inc : Bool) → line ≡ Send id size fill inc → ⊥
  pub sendraw : (bytes : List ℕ) (inc : Bool) → line ≡ SendRaw bytes inc → ⊥
  pub xmit : (buf : ℕ) (inc : Bool) → line ≡ TransmitBuffer buf inc → ⊥
  pub event : (id : ℕ) (kind : EventKind) (text : List ℕ) → line ≡ SendEvent id kind text → ⊥
  pub treg : (handle : ℕ) (name : List ℕ) (size option : ℕ) (rules : List Rule) → line ≡ TableRegister handle name size option rules → ⊥
  pub tshare : (handle : ℕ) (name : List ℕ) → line ≡ TableShare handle name → ⊥
  pub tstage : (handle offset : ℕ) (content : Content) → line ≡ Stage handle offset content → ⊥
  pub tload : (handle offset : ℕ) (content : Content) → line ≡ Load handle offset content → ⊥

pub charge_default : (account : Account) (line : Line) → IsFree line → 0 ≡ charge_of account line
unfolding charge_of
charge_default account (Create pipe depth name) never = absurd (never.create pipe depth name refl)
charge_default account (Find pipe name) never = absurd (never.find pipe name refl)
charge_default account (Send id size fill inc) never = absurd (never.send id size fill inc refl)
charge_default account (SendRaw bytes inc) never = absurd (never.sendraw bytes inc refl)
charge_default account (TransmitBuffer buf inc) never = absurd (never.xmit buf inc refl)
charge_default account (SendEvent id kind text) never = absurd (never.event id kind text refl)
charge_default account (TableRegister handle name size option rules) never = absurd (never.treg handle name size option rules refl)
charge_default account (TableShare handle name) never = absurd (never.tshare handle name refl)
charge_default account (Stage handle offset content) never = absurd (never.tstage handle offset content refl)
charge_default account (Load handle offset content) never = absurd (never.tload handle offset content refl)
charge_default account line never = refl
