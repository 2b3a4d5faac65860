-- The subscriptions of a software bus, as a caller sees them (cFE Software Bus, subscriptions and
-- message limits).
use Rattle.std.specs.Prelude.{ℕ, ◌+◌, ◌-◌, ◌==◌, ◌&&◌, nat_le, ◌<◌, ◌≤◌, not, Bool, List, [], ◌∷◌, length, map, filter, find, Option, if◌then◌else◌}
use Rattle.std.specs.List.{All}
use Rattle.std.specs.Option.{option_map_or}
use Rattle.fsw_base.specs.declared.config.Scope.{Scope}
use Rattle.subscriptions.specs.declared.words.SubNo.{SubNo}
use Rattle.subscriptions.specs.declared.words.SubRow.{SubRow}
use Rattle.subscriptions.specs.declared.words.Admission.{Admission}
use Rattle.subscriptions.specs.declared.words.Admission.TheVariants.{Inside, OverLimit}

-- A live subscription: the slot that holds it, its number, message id and pipe, the place where the
-- pipe lies, how many of its messages may wait at once (its limit), its scope, and how many wait
-- now.
pub record LiveSubscription : Type 0 where
  pub slot : ℕ
  pub number : ℕ
  pub id : ℕ
  pub pipe : ℕ
  pub place : ℕ
  pub limit : ℕ
  pub scope : Scope
  pub waiting : ℕ

-- How many may be live at once, how many were made so far, and those that are live, in order of
-- number.
pub record Subscribed : Type 0 where
  pub room : ℕ
  pub made : ℕ
  pub live : List LiveSubscription

-- what a live subscription goes by
abbrev pub number_of : LiveSubscription → SubNo
number_of s = record { slot = s.slot; number = s.number }

-- whether a live subscription is the one of this slot and number
abbrev pub goes_by : SubNo → LiveSubscription → Bool
goes_by sub s = s.slot == sub.slot && s.number == sub.number

-- the live subscription of this slot and number; none if it has ended
abbrev pub live_at : Subscribed → SubNo → Option LiveSubscription
live_at subs sub = find (goes_by sub) subs.live

-- what a subscription was made with, and how many of its messages wait
abbrev pub row_of : LiveSubscription → SubRow
row_of s =
    record {
      id = s.id;
      pipe = s.pipe;
      place = s.place;
      limit = s.limit;
      scope = s.scope;
      waiting = s.waiting;
    }

-- what its limit says of one message more
abbrev pub admission_of : SubRow → Admission
admission_of row = if nat_le row.limit row.waiting then OverLimit else Inside

-- the same by number; one that has ended has no limit
abbrev pub admission_at : Subscribed → SubNo → Admission
admission_at subs sub = option_map_or (λ s. admission_of (row_of s)) (live_at subs sub) Inside

-- one more of its messages waits
abbrev pub one_more : LiveSubscription → LiveSubscription
one_more s = record s { waiting = s.waiting + 1 }

-- one of its messages waits no longer
abbrev pub one_fewer : LiveSubscription → LiveSubscription
one_fewer s = record s { waiting = s.waiting - 1 }

-- the subscriptions, with a change of the one of this slot and number, if it is live
abbrev pub with_change : Subscribed → SubNo → (LiveSubscription → LiveSubscription) → Subscribed
with_change subs sub change =
    record subs { live = map (λ s. if goes_by sub s then change s else s) subs.live }

-- the subscriptions without the one of this number
abbrev pub without : Subscribed → SubNo → Subscribed
without subs sub = record subs { live = filter (λ s. not (s.number == sub.number)) subs.live }

-- the numbers rise, all of them above this one
abbrev pub IsRising : ℕ → List LiveSubscription → Type 0
IsRising below [] = Unit {0}
IsRising below (s ∷ live) = (below < s.number) × IsRising s.number live

-- the live subscriptions stand in order of number, none made later than the last one made, each in
-- a slot below the room
pub record AreInOrder (subs : Subscribed) : Type 0 where
  pub rising : IsRising 0 subs.live
  pub numbers : All (λ s. s.number ≤ subs.made) subs.live
  pub slots : All (λ s. s.slot < subs.room) subs.live
  pub fit : length subs.live ≤ subs.room
