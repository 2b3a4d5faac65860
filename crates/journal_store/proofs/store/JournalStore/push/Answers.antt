use Rattle.std.proofs.Common.{◌≡◌, ℕ, if◌then◌else◌, Bool, true, List, [], ◌∷◌, ◌++◌, length, length-append, vec_capacity, sym, ap, ◌∙◌, subst, arith}
use Rattle.std.specs.Result.{is_ok}
use Rattle.journal_store.specs.declared.allowance.Allowance.{Allowance}
use Rattle.journal_store.specs.Budgets.{HasRoom}
use Rattle.journal_store.specs.Store.{Store, Stored, left_of}
use Rattle.journal_store.specs.Inside.{stored_in}
use Rattle.journal_store.proofs.Pushes.{IsKept-push, IsKept-wider, stored_in-push, added}
use Rattle.journal_store.proofs.store.JournalStore.push.Goals as goal

-- if there was room, the text was added
taken : (old new text : List ℕ) (ok : Bool) → ok ≡ true → new ≡ (if ok then old ++ text else old) → new ≡ old ++ text
taken old new text ok is items = subst (λ (b : Bool). new ≡ (if b then old ++ text else old)) is items

pub invariant_of-self : goal.invariant_of-self
invariant_of-self g c =
    let a = c.self.inside in
    let app = c.args.app in
    let text = c.args.text.now in
    let kept = c.self.invariant in
    let room : HasRoom a.left.items app (length text) =
    subst (λ (l : List Allowance). HasRoom l app (length text)) (sym (kept.remains ∙ ap left_of c.self.view_is)) c.requires in
    let start : c.len-start.result ≡ length a.bytes.items = omega (arith, a.bytes.ok) in
    let rows : c.push_reserved.new.self.items ≡ a.rows.items ++ added app c.args.row text (length a.bytes.items) ∷ [] =
    c.push_reserved.ensures.items ∙ ap (λ s. a.rows.items ++ added app c.args.row text s ∷ []) start in
    let pushed = IsKept-push a.rows.items a.bytes.items text app c.args.row (vec_capacity a.rows) (vec_capacity a.bytes) a.budgets.items a.left.items kept room in
    let bytes = taken a.bytes.items c.extend_from_slice.new.self.items text (is_ok c.extend_from_slice.result)
    (c.extend_from_slice.ensures.succeeds (omega (arith, a.bytes.ok, length-append a.bytes.items text, pushed.bytes_fit))) c.extend_from_slice.ensures.items in
    rw (rows, c.push_reserved.ensures.capacity, bytes, c.charge.ensures)
    (IsKept-wider _ _ (vec_capacity a.rows) (vec_capacity a.bytes) (vec_capacity c.extend_from_slice.new.self) _ _ pushed c.extend_from_slice.ensures.capacity)

pub returns : goal.returns
returns g c =
    let a = c.self.inside in
    let app = c.args.app in
    let text = c.args.text.now in
    let kept = c.self.invariant in
    let room : HasRoom a.left.items app (length text) =
    subst (λ (l : List Allowance). HasRoom l app (length text)) (sym (kept.remains ∙ ap left_of c.self.view_is)) c.requires in
    let pushed = IsKept-push a.rows.items a.bytes.items text app c.args.row (vec_capacity a.rows) (vec_capacity a.bytes) a.budgets.items a.left.items kept room in
    let bytes = taken a.bytes.items c.extend_from_slice.new.self.items text (is_ok c.extend_from_slice.result)
    (c.extend_from_slice.ensures.succeeds (omega (arith, a.bytes.ok, length-append a.bytes.items text, pushed.bytes_fit))) c.extend_from_slice.ensures.items in
    let start : c.len-start.result ≡ length a.bytes.items = omega (arith, a.bytes.ok) in
    let rows : c.push_reserved.new.self.items ≡ a.rows.items ++ added app c.args.row text (length a.bytes.items) ∷ [] =
    c.push_reserved.ensures.items ∙ ap (λ s. a.rows.items ++ added app c.args.row text s ∷ []) start in
    let one : Stored g.row.R.Denot = record { app = app; row = c.args.row; text = text } in
    let stored : stored_in c.extend_from_slice.new.self.items c.push_reserved.new.self.items ≡ c.args.self.now.rows ++ one ∷ [] =
    ap (λ bs. stored_in bs c.push_reserved.new.self.items) bytes
    ∙ ap (stored_in (a.bytes.items ++ text)) rows
    ∙ stored_in-push a.rows.items a.bytes.items text app c.args.row c.self.invariant.there
    ∙ ap (λ (s : Store g.row.R.Denot). s.rows ++ one ∷ []) c.self.view_is in
    let budgets : a.budgets.items ≡ c.args.self.now.budgets = ap (λ (s : Store g.row.R.Denot). s.budgets) c.self.view_is in
    λ i. record { budgets = budgets i; rows = stored i }
