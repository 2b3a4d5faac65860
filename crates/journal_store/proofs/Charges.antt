-- What charges leave of what applications may still add.
use Rattle.std.proofs.Common.{◌≡◌, ℕ, ◌+◌, ◌-◌, ◌<◌, List, [], ◌∷◌, ◌++◌, length, refl, ◌∙◌, arith}
use Rattle.std.proofs.lemmas.List.{length-map, length-set}
use Rattle.std.proofs.lemmas.List.Sums.{sum_by-set}
use Rattle.fsw_base.specs.declared.config.Budget.{Budget}
use Rattle.journal_store.specs.declared.allowance.Allowance.{Allowance}
use Rattle.journal_store.specs.Budgets.{HasRoom, Charge, allowances, allowance_of, charged, entries_left, bytes_left, left_from}

-- an application that may add an entry is known
within : (left : List Allowance) (app bytes : ℕ) → HasRoom left app bytes → app - 1 < length left
within [] app bytes room = absurd (omega arith)
within (x ∷ left) app bytes room = omega arith

-- a charge takes one from the entries that are left in all
pub entries_left-charged : (left : List Allowance) (app bytes : ℕ) → HasRoom left app bytes →
    entries_left (charged left app bytes) + 1 ≡ entries_left left
entries_left-charged left app bytes room =
    let a = allowance_of left app in
    let now : Allowance = record { entries = a.entries - 1; bytes = a.bytes - bytes } in
    let law = sum_by-set (λ (x : Allowance). x.entries) left (app - 1) now (record { entries = 0; bytes = 0 }) (within left app bytes room) in
    omega (arith, law)

-- a charge takes its bytes from those that are left in all
pub bytes_left-charged : (left : List Allowance) (app bytes : ℕ) → HasRoom left app bytes →
    bytes_left (charged left app bytes) + bytes ≡ bytes_left left
bytes_left-charged left app bytes room =
    let a = allowance_of left app in
    let now : Allowance = record { entries = a.entries - 1; bytes = a.bytes - bytes } in
    let law = sum_by-set (λ (x : Allowance). x.bytes) left (app - 1) now (record { entries = 0; bytes = 0 }) (within left app bytes room) in
    omega (arith, law)

-- a charge leaves as many applications
pub length-charged : (left : List Allowance) (app bytes : ℕ) → length (charged left app bytes) ≡ length left
length-charged left app bytes =
    let a = allowance_of left app in
    length-set left (app - 1) (record { entries = a.entries - 1; bytes = a.bytes - bytes })

-- one more entry is one more charge
pub left_from-push : (left : List Allowance) (charges : List Charge) (charge : Charge) →
    left_from left (charges ++ charge ∷ []) ≡ charged (left_from left charges) charge.app charge.bytes
left_from-push left [] charge = refl
left_from-push left (x ∷ charges) charge = left_from-push (charged left x.app x.bytes) charges charge

-- there is something left for as many applications as at first
pub length-left_from : (left : List Allowance) (charges : List Charge) → length (left_from left charges) ≡ length left
length-left_from left [] = refl
length-left_from left (x ∷ charges) =
    length-left_from (charged left x.app x.bytes) charges ∙ length-charged left x.app x.bytes

-- as many as have a budget
pub length-left_of : (budgets : List Budget) (charges : List Charge) → length (left_from (allowances budgets) charges) ≡ length budgets
length-left_of budgets charges = length-left_from (allowances budgets) charges ∙ length-map budgets _
