use Rattle.std.proofs.Common.{refl}
use Rattle.fsw_base.specs.Starts.{start_of}
use Rattle.routing.proofs.Numbers.{cut_before, cut_on}
use Rattle.routing.proofs.routes.recall_counts.Goals as goal

pub returns : goal.returns
returns c =
    ((λ id. refl), (λ starts route calls e. cut_before (start_of starts route.id) route.counted calls e), (λ route calls e. cut_on route.counted calls e))
