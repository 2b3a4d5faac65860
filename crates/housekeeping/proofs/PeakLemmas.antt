-- Peaks, once more was seen.
use Rattle.std.proofs.Common.{◌≡◌, ℕ, max, List, [], ◌∷◌, ◌++◌, map, refl, arith}
use Rattle.housekeeping.specs.declared.in_use.InUse.{InUse}
use Rattle.housekeeping.specs.Peaks.{greater, greatest, peak_of}

-- the greatest of some numbers and one more
greatest-push : (number : InUse → ℕ) (uses : List InUse) (now : InUse) →
    greatest (map number (uses ++ now ∷ [])) ≡ max (greatest (map number uses)) (number now)
greatest-push number [] now = omega arith
greatest-push number (first ∷ uses) now = let rest = greatest-push number uses now in omega (arith, rest)

-- the peaks, once more was seen, are the greater of what they were and this
pub peak_of-push : (uses : List InUse) (now : InUse) → peak_of (uses ++ now ∷ []) ≡ greater (peak_of uses) now
peak_of-push uses now =
    rw (greatest-push (λ now. now.msgids) uses now, greatest-push (λ now. now.pipes) uses now, greatest-push (λ now. now.subs) uses now, greatest-push (λ now. now.buffers) uses now, greatest-push (λ now. now.bytes) uses now) refl

-- a maximum taken twice
max-twice : (peak now : ℕ) → max (max peak now) now ≡ max peak now
max-twice peak now = omega arith

-- what was seen already raises no peak
pub greater-twice : (peak now : InUse) → greater (greater peak now) now ≡ greater peak now
greater-twice peak now =
    rw (max-twice peak.msgids now.msgids, max-twice peak.pipes now.pipes, max-twice peak.subs now.subs, max-twice peak.buffers now.buffers, max-twice peak.bytes now.bytes) refl
