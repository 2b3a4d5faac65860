use Rattle.bus_example.proofs.plain.listen.Goals as goal

pub returns : goal.returns
returns g c = λ app bag has. c.subscribe.ensures.bags app bag (c.create_pipe.ensures.bags app bag has)
