-- What the lines of actions are: lines that a text can have, few and light.
use Rattle.std.proofs.Common.{◌≡◌, ℕ, zero, suc, ◌+◌, ◌*◌, ◌≤◌, Bool, true, ◌&&◌, List, [], ◌∷◌, ◌++◌, length, fold, slice_index, slice_set, refl, ap, ◌∙◌, arith}
use Rattle.std.specs.List.{list_all}
use Rattle.std.proofs.lemmas.Bool.{le-leb}
use Rattle.std.proofs.lemmas.List.{length-append}
use Rattle.std.proofs.lemmas.List.Folds.{list_all-append}
use Rattle.std.proofs.lemmas.List.Sums.{fold-append}
use Rattle.script_lines.specs.declared.line.Line.TheVariants.{Send, Allocate, Form, TransmitBuffer}
use Rattle.script_lines.specs.Ranges.{is_readable}
use Rattle.script_settings.specs.declared.account.Account.{Account}
use Rattle.script_settings.specs.Accounts.{with_line, charge_of, sizes_after}
use Rattle.script_text.specs.declared.draws.Draft.{Draft}
use Rattle.script_text.specs.declared.draws.Kind.{Kind}
use Rattle.script_text.specs.declared.draws.Kind.TheVariants as kinds
use Rattle.script_text.specs.Draws.{draw}
use Rattle.script_text.specs.Generated.{draft, kind_of, action, action_of, actions}
use Rattle.script_text.proofs.DrawLemmas.{IsSmall, draft_small}

-- both lists pass
pub all_both : {X : Type 0} (p : X → Bool) (xs ys : List X) → list_all p xs ≡ true → list_all p ys ≡ true → list_all p (xs ++ ys) ≡ true
all_both p xs ys one other = list_all-append p xs ys ∙ ap (λ b. b && list_all p ys) one ∙ other

-- ---- ranges

send_readable : (m : Draft) → IsSmall m → list_all is_readable (Send m.id m.size m.fill true ∷ []) ≡ true
unfolding is_readable
send_readable m small =
    let id = le-leb m.id 65535 small.id in
    let least = le-leb 7 m.size small.least in
    let greatest = le-leb m.size 65542 (omega (arith, small.greatest)) in
    let fill = le-leb m.fill 255 small.fill in
    rw (id, least, greatest, fill) refl

buffer_readable : (m : Draft) → IsSmall m → list_all is_readable (Allocate 0 m.size ∷ Form 0 m.id m.fill ∷ TransmitBuffer 0 true ∷ []) ≡ true
unfolding is_readable
buffer_readable m small =
    let id = le-leb m.id 65535 small.id in
    let greatest = le-leb m.size 65542 (omega (arith, small.greatest)) in
    let fill = le-leb m.fill 255 small.fill in
    rw (id, greatest, fill) refl

kind_readable : (kind : Kind) (number : ℕ) → list_all is_readable (action_of kind number).0 ≡ true
unfolding action_of is_readable
kind_readable kinds.Send number = send_readable (draft number).0 (draft_small number)
kind_readable kinds.SendBuffer number = buffer_readable (draft number).0 (draft_small number)
kind_readable kinds.Receive number = refl

action_readable : (number : ℕ) → list_all is_readable (action number).0 ≡ true
unfolding action
action_readable number = kind_readable (kind_of (draw 4 number).0) (draw 4 number).1

pub actions_readable : (count number : ℕ) → list_all is_readable (actions count number).0 ≡ true
unfolding actions
actions_readable zero number = refl
actions_readable (suc count) number =
    all_both is_readable (action number).0 (actions count (action number).1).0 (action_readable number) (actions_readable count (action number).1)

-- ---- how many

kind_few : (kind : Kind) (number : ℕ) → length (action_of kind number).0 ≤ 3
unfolding action_of
kind_few kinds.Send number = omega arith
kind_few kinds.SendBuffer number = omega arith
kind_few kinds.Receive number = omega arith

action_few : (number : ℕ) → length (action number).0 ≤ 3
unfolding action
action_few number = kind_few (kind_of (draw 4 number).0) (draw 4 number).1

pub actions_few : (count number : ℕ) → length (actions count number).0 ≤ 3 * count
unfolding actions
actions_few zero number = omega arith
actions_few (suc count) number =
    omega (arith, length-append (action number).0 (actions count (action number).1).0, action_few number, actions_few count (action number).1)

-- ---- charges

-- the size that an alloc noted is that of the buffer sent
noted_size : (sizes : List ℕ) (size : ℕ) → slice_index (slice_set sizes 0 size) 0 ≤ size
noted_size [] size = omega arith
noted_size (first ∷ sizes) size = omega arith

kind_light : (kind : Kind) (number : ℕ) (account : Account) → (fold with_line account (action_of kind number).0).bytes ≤ account.bytes + 64
unfolding action_of charge_of sizes_after
kind_light kinds.Send number account = omega (arith, (draft_small number).greatest)
kind_light kinds.SendBuffer number account = omega (arith, (draft_small number).greatest, noted_size account.sizes (draft number).0.size)
kind_light kinds.Receive number account = omega arith

action_light : (number : ℕ) (account : Account) → (fold with_line account (action number).0).bytes ≤ account.bytes + 64
unfolding action
action_light number account = kind_light (kind_of (draw 4 number).0) (draw 4 number).1 account

pub actions_light : (count number : ℕ) (account : Account) → (fold with_line account (actions count number).0).bytes ≤ account.bytes + 64 * count
unfolding actions
actions_light zero number account = omega arith
actions_light (suc count) number account =
    let lines = (action number).0 in let others = (actions count (action number).1).0 in
    omega (arith, ap (λ (a : Account). a.bytes) (fold-append with_line account lines others), action_light number account, actions_light count (action number).1 (fold with_line account lines))
