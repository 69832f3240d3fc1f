use Rattle.tensor_ports.proofs.memory.up_to_stuck.Goals as goal

pub returns-in-Some-clause-furthest : goal.returns-in-Some-clause-furthest
returns-in-Some-clause-furthest c = rw c.in-Some.is (c.up_to_stop.ensures.furthest)
