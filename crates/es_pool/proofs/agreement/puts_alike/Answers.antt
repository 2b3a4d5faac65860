use Rattle.std.proofs.Common.{refl}
use Rattle.es_pool.proofs.Law.{returns_alike, moved_back}
use Rattle.es_pool.proofs.agreement.puts_alike.Goals as goal

pub returns-in-Some-clause-account : goal.returns-in-Some-clause-account
returns-in-Some-clause-account g c =
    returns_alike c.args.pool.now c.put.new.self c.args.plain.now c.put-in-Some.new.self c.args.block c.in-Some.class c.requires (c.in-Ok.ensures.ok.0 refl) c.in-Some.ensures.class c.in-Ok.ensures.given_back c.put-in-Some.ensures

pub returns-in-Some-clause-moved : goal.returns-in-Some-clause-moved
returns-in-Some-clause-moved g c =
    moved_back c.args.pool.now c.args.plain.now c.put-in-Some.new.self c.args.block c.in-Some.class (c.in-Ok.ensures.ok.0 refl) c.in-Some.ensures.class c.put-in-Some.ensures
