use Rattle.std.proofs.Common.{rules, ap}
use Rattle.host_serve.specs.Serve.{fed_through}
use Rattle.host_serve.proofs.Served.{fed-as, made-as, serves-as}
use Rattle.host_serve.proofs.serving.serve_guarded_alone.Goals as goal

pub returns : goal.returns
returns g c =
    serves-as (ap fed_through c.new-source.ensures) (fed-as (search rules) (search rules)) (made-as (search rules) (search rules) (search rules)) (made-as (search rules) (search rules) (search rules))
    c.serve_words_alone-status.ensures.serves
