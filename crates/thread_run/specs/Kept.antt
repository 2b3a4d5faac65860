-- What a thread promises of its application.
use Rattle.std.specs.Prelude.{◌≡◌, ℕ, ◌≤◌, [], length, Result, Ok, Err, vec_capacity}
use Rattle.std.specs.declared.thread.PromisedHandle.{PromisedHandle}
use Rattle.std.specs.declared.thread.SpawnError.{SpawnError}
use Rattle.atomic_table.specs.Seated.{TableId}
use Rattle.app_script.specs.Script.{ScriptText}
use Rattle.thread_run.specs.declared.starting.Lists.{Lists}
use Rattle.thread_run.specs.declared.starts.Begun.{Begun}
use Rattle.thread_run.specs.declared.starts.Place.{Place}
use Rattle.thread_run.specs.declared.starts.Place.TheVariants.{OnThread, Here}
use Rattle.thread_run.specs.declared.works.Done.{Done}
use Rattle.thread_run.specs.declared.works.Ends.{Ends}
use Rattle.thread_run.specs.Whole.{whole}
use Rattle.thread_run.specs.Works.{IsDone}

-- it ends, and is through
abbrev pub KeptBy : Ends → Done → Type 0
KeptBy ends done =
    IsDone (whole ends.shared) ends.shared.bus.now ends.shared.tables.now ends.app done

-- the promise of this application of this run
pub record EndsFor (script : ScriptText) (bus tables : TableId) (app : ℕ)
    (ends : Ends) : Type 0 where
  pub script_is : whole ends.shared ≡ script
  pub bus_is : ends.shared.bus.now ≡ bus
  pub tables_is : ends.shared.tables.now ≡ tables
  pub app_is : ends.app ≡ app

-- what comes of an application that was begun: what its thread promised, or what it left in the
-- caller's place
abbrev pub Comes : {D P : Type 0} → (P → D → Type 0) → Place D P → D → Type 0
Comes kept (OnThread handle) done = kept handle.promise done
Comes kept (Here left) done = done ≡ left

-- an application's start and where it runs: on the thread that was started, or in the caller's
-- place, by what was handed back
abbrev pub BeginsAs : {D P F : Type 0} → (F → D → Type 0) →
    Result (PromisedHandle D P) (SpawnError F) → Place D P → Type 0
BeginsAs gives (Ok handle) (OnThread same) = same ≡ handle
BeginsAs gives (Ok handle) (Here done) = ⊥
BeginsAs gives (Err refused) (OnThread handle) = ⊥
BeginsAs gives (Err refused) (Here done) = gives refused.value done

-- the application runs in a place if it is this one of this run: on a thread with its promise,
-- or it is through
abbrev pub RunsIn : ScriptText → TableId → TableId → ℕ → Place Done Ends → Type 0
RunsIn script bus tables app (OnThread handle) = EndsFor script bus tables app handle.promise
RunsIn script bus tables app (Here done) = IsDone script bus tables app done

-- the application of this number was begun, in a run of as many as the script has
pub record IsBegun (script : ScriptText) (bus tables : TableId) (app : ℕ)
    (begun : Begun Done Ends) : Type 0 where
  pub runs : RunsIn script bus tables app begun.place
  pub apps : begun.apps ≡ length script.apps

-- both lists are empty, and have room for so many applications
pub record HaveRoomFor (apps : ℕ) (lists : Lists) : Type 0 where
  pub none_begun : lists.begun.items ≡ []
  pub none_done : lists.dones.items ≡ []
  pub room : apps ≤ vec_capacity lists.begun
  pub done_room : apps ≤ vec_capacity lists.dones
