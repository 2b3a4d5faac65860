-- What an application is shown, if it is served.
use Rattle.std.proofs.Common.{◌≡◌, ℕ, Bool, true, false, cond, List, length, Option, Some, None, refl, ap, sym, ◌∙◌}
use Rattle.std.specs.Option.{option_map, unwrap_or}
use Rattle.checked_bus.specs.Asked.{is_application}
use Rattle.checked_bus.specs.Box.{Boxed, last_message}
use Rattle.fsw_c.specs.Shown.{shown_length, last_shown}

pub shown : {X : Type 0} (served : Bool) (found is : Option X) → (served ≡ true → found ≡ is) → (served ≡ false → found ≡ None) → found ≡ cond {A = Option X} served is None
shown true found is known unknown = known refl
shown false found is known unknown = unknown refl

-- as long as the last message of an application that is served
pub last_length : (bus : Boxed) (app pipe len : ℕ) → is_application bus.core app ≡ true → Some len ≡ option_map (λ (bytes : List ℕ). length bytes) (last_message bus.core app pipe) → len ≡ shown_length (last_shown bus app pipe)
last_length bus app pipe len served is =
    by_last (last_message bus.core app pipe) is ∙ sym (ap (λ b. shown_length (cond {A = Option (List ℕ)} b (last_message bus.core app pipe) None)) served)
  where
    by_last : (last : Option (List ℕ)) → Some len ≡ option_map (λ (bytes : List ℕ). length bytes) last → len ≡ shown_length last
    by_last None never = absurd (cc (never))
    by_last (Some bytes) same = ap (λ (o : Option ℕ). unwrap_or o 0) same
