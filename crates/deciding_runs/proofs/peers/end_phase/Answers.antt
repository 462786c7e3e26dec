use Rattle.std.proofs.Common.{map, sym, ◌∙◌, arith}
use Rattle.std.proofs.lemmas.List.{same_lists, length-map, get_or-map, get_or_default}
use Rattle.deciding_runs.specs.Peers.{after_phase, unheard}
use Rattle.deciding_runs.proofs.peers.end_phase.Goals as goal

pub returns : goal.returns
returns c =
    let old = c.args.peers.now in
    let after = after_phase c.args.round in
    let long = c.loop-peer.auto.peers in
    same_lists c.loop-peer.peers (map after old) (long ∙ sym (length-map old after))
    (λ k d h.
    get_or_default c.loop-peer.peers k d unheard h
    ∙ c.loop-peer.invariant.done k (omega (arith, c.loop-peer-test.false))
    ∙ sym (get_or-map after old k unheard d (omega (arith, c.loop-peer-test.false))))
