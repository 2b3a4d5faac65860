-- What a bag shows of what an application's handles hold, and the receipts made of it.
use Rattle.std.proofs.Common.{◌≡◌, ℕ, ◌≤◌, List, [], ◌∷◌, length, Option, Some, None, IfSome, IsSome, unwrap_or, refl, ap, sym, ◌∙◌, subst, arith}
use Rattle.std.specs.Option.{option_map, option_to_list}
use Rattle.bus_words.specs.declared.receipts.Receipt.{Receipt}
use Rattle.bus_words.specs.declared.receipts.Receipt.TheVariants.{Nothing}
use Rattle.tbl_words.specs.declared.calls.Told.{Told}
use Rattle.tbl_words.specs.declared.calls.TblAnswer.{TblAnswer}
use Rattle.tbl_words.specs.declared.calls.TblAnswer.TheVariants.{Address}
use Rattle.tbl_words.specs.declared.history.Call.{Call}
use Rattle.tbl_words.specs.declared.history.Call.TheVariants.{GetAddress}
use Rattle.tbl_words.specs.Tables.{Hold, State}
use Rattle.tbl_load.specs.Bags.{bytes_seen}
use Rattle.tbl_load.specs.Core.{Core, Does, apps_of, state_of}
use Rattle.tbl_load.proofs.BagViews.{shown}
use Rattle.script_runs.specs.Told.{addressed_in, held_in, own_hold}
use Rattle.script_runs.proofs.HeldReceipts.{held-own}
use Rattle.app_calls.specs.Callers.{Caller}
use Rattle.app_calls.specs.TableCallers.{HasOwnTables}
use Rattle.app_run.specs.Received.{held_receipt, held_under, taken_at_tables, newest_version, RememberHeld}
use Rattle.app_run.proofs.OwnHolds.{bytes-own, own-small, address-version}

-- what was read is what is held
read-hold : (found : Option Hold) (bytes : List ℕ) → Some bytes ≡ option_map (λ hold. hold.value) found → (hold : Hold) × (found ≡ Some hold) × (bytes ≡ hold.value)
read-hold None bytes is = absurd cc
read-hold (Some hold) bytes is = (hold, refl, cc is)

module _ (caller : Caller) (handle : ℕ) (has : HasOwnTables caller) where
  abbrev held_now : Option Hold
  held_now = own_hold (state_of caller.tables) caller.app handle

  -- the bag shows the bytes of what the own handle holds
  seen-own : bytes_seen caller.held handle ≡ option_map (λ (hold : Hold). hold.value) held_now
  seen-own = shown caller.tables caller.app handle caller.held has ∙ bytes-own caller.tables.limits (apps_of caller.tables) caller.tables.log.entries caller.app handle

  -- they are few
  pub few-held : (bytes : List ℕ) → caller.tables.limits.tablemax ≤ 65536 → Some bytes ≡ bytes_seen caller.held handle → length bytes ≤ 65536
  few-held bytes small seen =
      let found = read-hold held_now bytes (seen ∙ seen-own) in
      let few : length found.0.value ≤ caller.tables.limits.tablemax =
      subst (λ o. IfSome o (λ (hold : Hold). length hold.value ≤ caller.tables.limits.tablemax)) found.1 (own-small caller.tables.limits (apps_of caller.tables) caller.tables.log.entries caller.app handle) in
      let same : length bytes ≡ length found.0.value = ap length found.2 in
      omega (arith, few, same, small)

  pub held-one : (version : ℕ) (bytes : List ℕ) → Some bytes ≡ bytes_seen caller.held handle → held_receipt handle version bytes ∷ [] ≡ held_under caller handle version
  held-one version bytes seen =
      let found = read-hold held_now bytes (seen ∙ seen-own) in
      ap (λ b. held_receipt handle version b ∷ []) found.2
      ∙ sym (ap (λ o. option_to_list (option_map (λ (hold : Hold). held_receipt handle version hold.value) o)) found.1)

  pub held-none : (version : ℕ) → None ≡ bytes_seen caller.held handle → [] ≡ held_under caller handle version
  held-none version seen = by_hold held_now (seen ∙ seen-own)
    where
      by_hold : (found : Option Hold) → None ≡ option_map (λ hold. hold.value) found → [] ≡ option_to_list (option_map (λ hold. held_receipt handle version hold.value) found)
      by_hold None none = refl
      by_hold (Some hold) none = absurd cc

  -- if a version is seen, there is a newest receipt of it
  module _ (receipts : List Receipt) (bytes : List ℕ) (remember : RememberHeld receipts (state_of caller.tables) caller.app) (seen : Some bytes ≡ bytes_seen caller.held handle) where
    read : (hold : Hold) × (held_now ≡ Some hold) × (bytes ≡ hold.value)
    read = read-hold held_now bytes (seen ∙ seen-own)

    newest : newest_version receipts handle ≡ Some read.0.version
    newest = subst (λ o. IfSome o (λ (hold : Hold). newest_version receipts handle ≡ Some hold.version)) read.1 (remember handle)

    pub version-known : IsSome (newest_version receipts handle)
    version-known = subst (λ o. IsSome o) (sym newest) refl

    pub shown-hold : (version : ℕ) → newest_version receipts handle ≡ Some version → held_receipt handle version bytes ≡ unwrap_or (held_in (state_of caller.tables) caller.app handle) Nothing
    shown-hold version told =
        let same : read.0.version ≡ version = cc (newest, told) in
        ap (λ v. held_receipt handle v bytes) (sym same)
        ∙ ap (λ b. held_receipt handle read.0.version b) read.2
        ∙ sym (ap (λ o. unwrap_or o Nothing) (held-own (state_of caller.tables) caller.app handle
        ∙ ap (option_map (λ (hold : Hold). held_receipt handle hold.version hold.value)) read.1))

  pub none-held : None ≡ bytes_seen caller.held handle → Nothing ≡ unwrap_or (held_in (state_of caller.tables) caller.app handle) Nothing
  none-held seen =
      ap (λ o. unwrap_or o Nothing)
      (by_hold held_now (seen ∙ seen-own) ∙ sym (held-own (state_of caller.tables) caller.app handle))
    where
      by_hold : (found : Option Hold) → None ≡ option_map (λ hold. hold.value) found → None ≡ option_map (λ (hold : Hold). held_receipt handle hold.version hold.value) found
      by_hold None none = refl
      by_hold (Some hold) none = absurd cc

-- The receipts that are taken are those that the call tells of. --

same-version : (handle version : ℕ) (found : Option Hold) → IfSome found (λ hold. hold.version ≡ version) →
    option_to_list (option_map (λ (hold : Hold). held_receipt handle version hold.value) found) ≡ option_to_list (option_map (λ (hold : Hold). held_receipt handle hold.version hold.value) found)
same-version handle version None is = refl
same-version handle version (Some hold) is = ap (λ v. held_receipt handle v hold.value ∷ []) (sym is)

address-told : (before : Core) (after : Caller) (handle : ℕ) (told : Told) (version : ℕ) → Does before after.tables after.app (GetAddress handle) (Address told version) →
    held_under after handle version ≡ option_to_list (held_in (state_of after.tables) after.app handle)
address-told before after handle told version does =
    same-version handle version (own_hold (state_of after.tables) after.app handle)
    (subst (λ (t : State). IfSome (own_hold t after.app handle) (λ (hold : Hold). hold.version ≡ version)) (sym does.state)
    (address-version before.limits (state_of before) after.app handle told version does.as_machine))
    ∙ ap option_to_list (sym (held-own (state_of after.tables) after.app handle))

pub taken-address_told : (before : Core) (after : Caller) (call : Call) (answer : TblAnswer) → Does before after.tables after.app call answer →
    taken_at_tables after (Some call) answer ≡ addressed_in after.app (state_of after.tables) call answer
taken-address_told before after (GetAddress handle) (Address told version) does = address-told before after handle told version does
taken-address_told before after call answer does = refl
