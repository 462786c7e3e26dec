use Rattle.std.proofs.Common.{inl, refl}
use Rattle.node_runs.proofs.runs.have_ended.Goals as goal

pub returns-then-have_decided : goal.returns-then-have_decided
returns-then-have_decided c = λ done. rw c.in-Decided.is (c.if-have_done_at_most.ensures.0 refl, inl (c.have_decided.ensures done))
