use Rattle.std.proofs.Common.{rules, ◌≡◌, Some, subst, sym}
use Rattle.std.proofs.lemmas.Result.{IfOk-weaker}
use Rattle.chunk_join.specs.Digests.{IsDigestOf}
use Rattle.chunk_join.specs.Sufficient.{Suffices}
use Rattle.chunk_join.proofs.SufficientDigests.{Suffices-digest}
use Rattle.chunk_join.proofs.digests.Digest.last_stairs.Goals as goal

pub returns-in-Some : goal.returns-in-Some
returns-in-Some c = IfOk-weaker c.stairs_of.result _ _ (λ stairs levels whole h inside.
    (let value : c.args.self.now ≡ Some c.in-Some.part = search rules in
    let is : IsDigestOf whole 0 whole.trace.last (Some c.in-Some.part) = subst (IsDigestOf whole 0 whole.trace.last) value h in
    levels whole.set whole.trace whole.sound
    (subst (Suffices whole.set whole.trace) (sym is.2.2) (Suffices-digest whole.set whole.trace whole.sound is.2.0 is.2.1)) inside))
    c.stairs_of.ensures
