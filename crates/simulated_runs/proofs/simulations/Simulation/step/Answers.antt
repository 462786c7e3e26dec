use Rattle.simulated_runs.proofs.simulations.Simulation.step.Goals as goal

pub chosen-p-requires-clause-turns : goal.chosen-p-requires-clause-turns
chosen-p-requires-clause-turns c = λ t h. rw (c.deref.ensures.value, c.len.ensures.value, c.trace.ensures.value) (c.requires.turns t h)
