use Rattle.std.proofs.Common.{subst, sym}
use Rattle.std.specs.Prelude.{IfOk}
use Rattle.chunk_join.specs.Digests.{IsDigestOf}
use Rattle.chunk_join.specs.Analyses.{IsDigestBetween}
use Rattle.chunk_join.specs.Laws.DigestsJoined.{digests_join}
use Rattle.chunk_join.proofs.analyses.both.Goals as goal

-- they are parts of one whole
pub returns-in-Ok-clause-digest : goal.returns-in-Ok-clause-digest
returns-in-Ok-clause-digest c = λ set trace i j k l r sound.
    (let left : IsDigestBetween set trace i j c.in-Ok-Ok.left = subst (λ x. IfOk x (IsDigestBetween set trace i j)) c.in-Ok-Ok.is-0 l in
    let right : IsDigestBetween set trace j k c.in-Ok-Ok.right = subst (λ x. IfOk x (IsDigestBetween set trace j k)) c.in-Ok-Ok.is-1 r in
    let both = digests_join.part (record { set = set; trace = trace; sound = sound }) i j k _ _ (left sound) (right sound) in
    subst (IsDigestOf (record { set = set; trace = trace; sound = sound }) i k) (sym c.in-Ok.ensures.value) both)
