-- What holds of whatever a reading gives.
use Rattle.std.proofs.Common.{◌≡◌, Bool, true, false, cond, Result, Ok, Err, refl, subst}
use Rattle.fsw_base.specs.declared.script_faults.FaultKind.{FaultKind}
use Rattle.script_words.specs.Readings.{◌>>=◌}

-- what the reading gives, if anything, is such
abbrev pub Holds : {A : Type 0} → (A → Type 0) → Result A FaultKind → Type 0
Holds P (Ok x) = P x
Holds P (Err fault) = Unit {0}

-- of a step on such a value
pub then : {A B : Type 0} (P : A → Type 0) (Q : B → Type 0) (r : Result A FaultKind) (f : A → Result B FaultKind) → Holds P r → ((x : A) → P x → Holds Q (f x)) → Holds Q (r >>= f)
then P Q (Ok x) f one next = next x one
then P Q (Err fault) f one next = tt

-- of a step on any value
pub any : {A B : Type 0} (Q : B → Type 0) (r : Result A FaultKind) (f : A → Result B FaultKind) → ((x : A) → Holds Q (f x)) → Holds Q (r >>= f)
any Q (Ok x) f next = next x
any Q (Err fault) f next = tt

-- of a value behind a test
pub guard : {A : Type 0} (P : A → Type 0) (b : Bool) (x : A) (fault : FaultKind) → (b ≡ true → P x) → Holds P (cond b (Ok x) (Err fault))
guard P true x fault h = h refl
guard P false x fault h = tt

-- of a refusal, and of what is read otherwise
pub refuse : {A : Type 0} (P : A → Type 0) (b : Bool) (fault : FaultKind) (r : Result A FaultKind) → (b ≡ false → Holds P r) → Holds P (cond b (Err fault) r)
refuse P true fault r h = tt
refuse P false fault r h = h refl

-- of either of two
pub either : {A : Type 0} (P : A → Type 0) (b : Bool) (r s : Result A FaultKind) → Holds P r → Holds P s → Holds P (cond b r s)
either P true r s one other = one
either P false r s one other = other

-- of the value that was given
pub given : {A : Type 0} (P : A → Type 0) (r : Result A FaultKind) (x : A) → Holds P r → r ≡ Ok x → P x
given P r x holds e = subst (Holds P) e holds

-- of what is read behind a test that it passed
pub accept : {A : Type 0} (P : A → Type 0) (b : Bool) (r : Result A FaultKind) (fault : FaultKind) → (b ≡ true → Holds P r) → Holds P (cond b r (Err fault))
accept P true r fault h = h refl
accept P false r fault h = tt

-- of either of two, by the test
pub decides : {A : Type 0} (P : A → Type 0) (b : Bool) (r s : Result A FaultKind) → (b ≡ true → Holds P r) → (b ≡ false → Holds P s) → Holds P (cond b r s)
decides P true r s one other = one refl
decides P false r s one other = other refl
