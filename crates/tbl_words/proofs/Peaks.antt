-- Peaks behind one more entry, and behind any beginning.
use Rattle.std.proofs.Common.{◌≡◌, ℕ, ◌≤◌, max, List, [], ◌∷◌, ◌++◌, refl, arith}
use Rattle.fsw_base.specs.Limits.{Limits}
use Rattle.tbl_words.specs.declared.uses.TblUse.{TblUse}
use Rattle.tbl_words.specs.declared.history.Entry.{Entry}
use Rattle.tbl_words.specs.Tables.{State, opening}
use Rattle.tbl_words.specs.Machine.{step, state_from}
use Rattle.tbl_words.specs.Uses.{use_of, greater_of, IsWithin, peak_from, PeaksGoOn, PeaksAreGreatest}

peak_from-push : (limits : Limits) (peak : TblUse) (s : State) (es : List Entry) (e : Entry) →
    peak_from limits peak s (es ++ e ∷ []) ≡ greater_of (peak_from limits peak s es) (use_of limits (state_from limits s (es ++ e ∷ [])))
peak_from-push limits peak s [] e = refl
peak_from-push limits peak s (x ∷ es) e =
    let next = (step limits s x.app x.call).1 in
    peak_from-push limits (greater_of peak (use_of limits next)) next es e

pub peaks_go_on : PeaksGoOn
peaks_go_on limits apps history e = peak_from-push limits (use_of limits (opening limits apps)) (opening limits apps) history e

le-left : (m n : ℕ) → m ≤ max m n
le-left m n = omega arith

le-right : (m n : ℕ) → n ≤ max m n
le-right m n = omega arith

within-left : (one other : TblUse) → IsWithin one (greater_of one other)
within-left one other = record {
  tables = le-left one.tables other.tables;
  handles = le-left one.handles other.handles;
  bytes = le-left one.bytes other.bytes;
}

within-right : (one other : TblUse) → IsWithin other (greater_of one other)
within-right one other = record {
  tables = le-right one.tables other.tables;
  handles = le-right one.handles other.handles;
  bytes = le-right one.bytes other.bytes;
}

within-trans : (a b c : TblUse) → IsWithin a b → IsWithin b c → IsWithin a c
within-trans a b c one other = record {
  tables = omega (arith, one.tables, other.tables);
  handles = omega (arith, one.handles, other.handles);
  bytes = omega (arith, one.bytes, other.bytes);
}

within-self : (a : TblUse) → IsWithin a a
within-self a = record { tables = omega arith; handles = omega arith; bytes = omega arith }

-- a peak never falls
rises : (limits : Limits) (peak : TblUse) (s : State) (es : List Entry) → IsWithin peak (peak_from limits peak s es)
rises limits peak s [] = within-self peak
rises limits peak s (x ∷ es) =
    let next = (step limits s x.app x.call).1 in
    let higher = greater_of peak (use_of limits next) in
    within-trans peak higher (peak_from limits higher next es) (within-left peak (use_of limits next)) (rises limits higher next es)

within_peak : (limits : Limits) (peak : TblUse) (s : State) (es more : List Entry) → IsWithin (use_of limits s) peak →
    IsWithin (use_of limits (state_from limits s es)) (peak_from limits peak s (es ++ more))
within_peak limits peak s [] more here = within-trans (use_of limits s) peak (peak_from limits peak s more) here (rises limits peak s more)
within_peak limits peak s (x ∷ es) more here =
    let next = (step limits s x.app x.call).1 in
    within_peak limits (greater_of peak (use_of limits next)) next es more (within-right peak (use_of limits next))

pub peaks_are_greatest : PeaksAreGreatest
peaks_are_greatest limits apps history more =
    within_peak limits (use_of limits (opening limits apps)) (opening limits apps) history more (within-self (use_of limits (opening limits apps)))
