use Rattle.std.proofs.Common.{rules, subst, sym, ap, ◌∙◌, ◌≡◌, ◌+◌, ◌≤◌, ◌∷◌, ◌++◌, [], length}
use Rattle.chunk_join.specs.declared.analyses.DigestOf.{DigestOf}
use Rattle.chunk_join.specs.Analyses.{ArePromised, IsPromised, IsShare}
use Rattle.chunk_join.proofs.JoinedShares.{ArePromised-push, IsDigestBetween-whole}
use Rattle.chunk_join.proofs.WorkersLetIn.{all_in, on_ok, on_held, one_held, unstarted_held}
use Rattle.chunk_join.proofs.analyses.fn.digest_of_all.scope.Goals as goal

-- the thread that was started is that of the next worker
pub loop-worker-preserved : goal.loop-worker-preserved
loop-worker-preserved g c =
    let was = c.loop-worker.invariant in
    let set = c.captures.set.now in
    let trace = c.captures.trace.now in
    let gate = c.captures.gate.now in
    let workers = c.captures.workers in
    let threads = c.loop-worker.threads.items in
    let thread = c.in-Ok-spawn_with.thread in
    let ok = c.in-Ok-spawn_with.ensures.ok in
    let items : c.push_reserved.new.self.items ≡ threads ++ thread ∷ [] = search rules in
    let count : c.loop-worker.worker ≡ length threads + 1 = search rules in
    let own = subst (λ ticks. IsShare ticks workers c.loop-worker.worker c.of-share.result) c.requires.ticks c.of-share.ensures.share in
    let share = subst (λ w. IsShare trace.last workers w c.of-share.result) count own in
    let is : IsPromised set trace gate workers (length threads + 1) thread.promise = record {
      members = ap (λ (p : DigestOf _). p.set) ok;
      trace_is = ap (λ (p : DigestOf _). p.trace.value) ok ∙ c.of-seen.ensures;
      share = subst (λ (p : DigestOf _). IsShare trace.last workers (length threads + 1) p.share) (sym ok) share;
      gate_is = ap (λ (p : DigestOf _). p.gate.value) ok ∙ c.of-entered.ensures;
      worker_is = ap (λ (p : DigestOf _). p.worker) ok ∙ count;
    } in (
      search rules,
      search rules,
      subst (ArePromised set trace gate workers) (sym items) (ArePromised-push set trace gate workers threads thread was.2 is),
    )

-- each worker has promised its share, and what the gate answers it
pub returns : goal.returns
returns g c =
    let threads = c.loop-worker.threads.items in
    let set = c.captures.set.now in
    let trace = c.captures.trace.now in
    let gate = c.captures.gate.now in
    let workers = c.captures.workers in
    let promised = c.loop-worker.invariant.2 in
    let count : length threads ≡ workers = search rules in
    let few : length threads ≤ workers = search rules in record {
      digest =
          IsDigestBetween-whole threads c.joined-2.result set trace gate workers c.requires.some count promised c.joined-2.ensures.digest;
      entered = on_ok c.joined-2.result _ _ (all_in g.G.Gate.lets set trace gate workers threads count promised) c.joined-2.ensures.entered;
      held = on_held c.joined-2.result _ _ (one_held g.G.Gate.lets set trace gate workers threads few promised) c.joined-2.ensures.held;
    }

-- of the threads that were started one may be held back
pub returns-in_default-spawn_with : goal.returns-in_default-spawn_with
returns-in_default-spawn_with g c =
    let threads = c.loop-worker.threads.items in
    let workers = c.captures.workers in
    let few : length threads ≤ workers = search rules in record {
      digest = tt;
      entered = tt;
      held = unstarted_held c.joined.result c.unstarted.result _ c.unstarted.ensures.cause
          (on_held c.joined.result _ _ (one_held g.G.Gate.lets
          c.captures.set.now c.captures.trace.now c.captures.gate.now workers threads few c.loop-worker.invariant.2) c.joined.ensures.held);
    }
