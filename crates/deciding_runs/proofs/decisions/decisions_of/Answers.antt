use Rattle.std.proofs.Common.{ℕ, ◌≡◌, ◌+◌, ◌-◌, List, length, take, drop, ◌++◌, ◌∷◌, [], ap, subst, sym, ◌∙◌, arith}
use Rattle.std.specs.Prelude.{filter_map}
use Rattle.std.specs.List.{range_with_len}
use Rattle.std.proofs.lemmas.List.Elements.{filter_map-append}
use Rattle.std.proofs.Math.Seq.{take-append_seam}
use Rattle.deciding_runs.proofs.Common.{range_with_len-more, decision_at, AreRounds}
use Rattle.deciding_runs.proofs.decisions.decisions_of.Goals as goal

-- a list that is written over by one of the same length is that one
written-over : (n : ℕ) (new rest : List ℕ) → length new ≡ n → take n (new ++ rest) ≡ new
written-over n new rest long = ap (λ k. take k (new ++ rest)) (sym long) ∙ take-append_seam new rest

pub loop-no-preserved : goal.loop-no-preserved
loop-no-preserved c =
    let is = c.loop-no.invariant in
    let no = c.loop-no.no in
    let at = decision_at c.args.world.now.trace.config c.args.world.now.trace.steps in
    let numbered = is.numbered in
    let long : length c.note_step.new.rounds ≡ c.loop-no.rounds.len = c.in_ok-note_step.ensures.rounds.count
    ∙ sym is.rounds.count ∙ sym c.loop-no.rounds.ok.0 in
    let next : no + 1 - 1 ≡ no - 1 + 1 = omega arith in
    record {
      numbered = omega arith;
      rounds = subst (AreRounds c.args.world.now.trace.config c.args.world.now.trace.steps (no + 1)) (sym (written-over c.loop-no.rounds.len
          c.note_step.new.rounds (drop (length c.note_step.new.rounds) c.loop-no.rounds.items) long)) c.in_ok-note_step.ensures.rounds;
      found = c.in_ok-note_step.ensures.found ∙ ap (λ xs. xs ++ filter_map at (no ∷ [])) is.found
          ∙ sym (filter_map-append at (range_with_len 1 (no - 1)) (no ∷ []))
          ∙ sym (ap (filter_map at) (range_with_len-more 1 (no - 1) no (omega arith)))
          ∙ sym (ap (λ n. filter_map at (range_with_len 1 n)) next);
    }
