use Rattle.std.proofs.Common.{◌≡◌, ◌-◌, subst, rules}
use Rattle.std.specs.List.Sorted.{IsPermutation}
use Rattle.std.proofs.lemmas.Fn.{always_returns_same}
use Rattle.step_trace.specs.declared.traces.TheConstants.{MAX_TICKS}
use Rattle.run_story.specs.Evidence.{ticks_of}
use Rattle.run_story.proofs.EvidenceLists.{AreInOrder-delays, all_evidence-from, begin_within, ordered-by_keys}
use Rattle.run_story.proofs.evidence.evidence_of.Goals as goal

pub stall_evidence-requires-clause-delays : goal.stall_evidence-requires-clause-delays
stall_evidence-requires-clause-delays c =
    rw c.deref-2.ensures.value (AreInOrder-delays c.args.trace.now c.args.rows.now c.in_ok-delays.delays.items c.in_ok-delays.ensures)

pub push_others-requires : goal.push_others-requires
push_others-requires c =
    rw c.deref-3.ensures.value (begin_within c.args.trace.now c.args.rows.now c.in_ok-delays.delays.items c.in_ok-delays.ensures)

pub returns : goal.returns
returns c = record {
  stalls = c.in_ok-stalls.stalls.items;
  delays = c.in_ok-delays.delays.items;
  are_stalls = c.in_ok-stalls.ensures.stalls;
  are_delays = c.in_ok-delays.ensures;
  each = subst (λ xs. IsPermutation xs c.sort_unstable_by_key.new.self.items)
      (all_evidence-from c.args.trace.now c.in_ok-stalls.stalls.items c.deref.result.now c.in_ok-delays.delays.items c.deref-2.result.now
      c.deref-3.result.now c.in_ok-list.list.items c.push_others.new.list.items c.deref.ensures.value c.deref-2.ensures.value
      c.deref-3.ensures.value c.in_ok-list.ensures c.in_ok-push_others.ensures) c.sort_unstable_by_key.ensures.permutation;
  ordered = ordered-by_keys c.sort_unstable_by_key.new.self.items
      (c.sort_unstable_by_key.ensures.sorted (λ e. (e.first, MAX_TICKS - ticks_of e))
      (always_returns_same _ (λ a r. r ≡ (a.0.now.first, MAX_TICKS - ticks_of a.0.now)) _ (λ a r q k. search rules)));
}
