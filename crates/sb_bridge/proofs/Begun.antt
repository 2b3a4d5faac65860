-- What comes of the bridge's thread, or of its run in the caller's place.
use Rattle.std.proofs.Common.{◌≡◌, ◌∙◌, Result, Ok, Err, IfOk, IfErr, sym, subst, ap}
use Rattle.std.specs.declared.thread.PromisedHandle.{PromisedHandle}
use Rattle.std.specs.declared.thread.SpawnError.{SpawnError}
use Rattle.thread_run.specs.declared.starts.Place.{Place}
use Rattle.thread_run.specs.declared.starts.Place.TheVariants.{OnThread, Here}
use Rattle.thread_run.specs.Kept.{BeginsAs, Comes}

module _ {D P F : Type 0} (kept : P → D → Type 0) (post : F → D → Type 0) (promise : P) (run : F) (keeps : (done : D) → post run done → kept promise done) where
  pub comes-kept : (start : Result (PromisedHandle D P) (SpawnError F)) (place : Place D P) (done : D) → IfOk start (λ handle. handle.promise ≡ promise) → IfErr start (λ refused. refused.value ≡ run) →
      BeginsAs post start place → Comes kept place done → kept promise done
  comes-kept (Ok handle) (OnThread same) done its none begins comes = subst (λ p. kept p done) (ap (λ (h : PromisedHandle D P). h.promise) begins ∙ its) comes
  comes-kept (Ok handle) (Here left) done its none begins comes = absurd begins
  comes-kept (Err refused) (OnThread handle) done none its begins comes = absurd begins
  comes-kept (Err refused) (Here left) done none its begins comes = subst (kept promise) (sym comes) (keeps left (subst (λ f. post f left) its begins))
