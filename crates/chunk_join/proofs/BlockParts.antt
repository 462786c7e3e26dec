-- The summary of a block, from what its passes find.
use Rattle.std.proofs.Common.{ℕ, ◌≡◌, ◌+◌, ◌-◌, ◌≤◌, List, [], filter, ◌∙◌, subst, sym, arith, length}
use Rattle.step_trace.specs.Traces.{Recorded}
use Rattle.step_trace.specs.Ticks.{IsTrace}
use Rattle.step_trace.specs.TickSteps.{AreStepsBefore}
use Rattle.chunk_join.specs.declared.summaries.Fate.{Fate}
use Rattle.chunk_join.specs.declared.summaries.Take.{Take}
use Rattle.chunk_join.specs.Summaries.{Summary, IsSummary, IsListing, IsSent, IsTake, IsLongest, SentBefore, TakenBefore, EndsBefore}
use Rattle.chunk_join.specs.Parts.{is_older}
use Rattle.chunk_join.specs.BlockSteps.{AreFates, AreFated, AreLastBy, AreTakesBy}
use Rattle.chunk_join.proofs.BlockMessages.{last_all}
use Rattle.chunk_join.proofs.BlockFates.{any_takes_all, block_taken, block_sent, fated_settled}

pub IsSummary-block : (set : ℕ) (t : Recorded) → IsTrace t
    → (from j before b : ℕ) (s : Summary) (fates : List Fate) (all : List Take) → 1 ≤ from → s.set ≡ set → s.from ≡ from
    → s.to ≡ j → AreStepsBefore t from before → AreStepsBefore t (j + 1) b → length fates ≡ b - before
    → AreFates before all fates → AreFated set t (from - 1) before b fates s.sent → AreTakesBy set t (from - 1) b [] all
    → s.taken ≡ filter (is_older from) all → AreLastBy set t (from - 1) b s.last
    → IsListing EndsBefore (IsLongest set t (from - 1) j) s.silent → IsSummary set t (from - 1) j s
IsSummary-block set t sound from j before b s fates all low e f g first o long each sent taken q last silent =
    let takes = any_takes_all set t (from - 1) j b all o taken in
    let same = sent.same ∙ fated_settled set t from j before b all fates sent.opens low first long each takes sent.listing in
    record {
      members = e;
      from = f ∙ (let same : from ≡ from - 1 + 1 = omega (arith, low) in same);
      to = g;
      sent = subst (λ xs. IsListing SentBefore (IsSent set t (from - 1) j) xs)
          (sym same) (block_sent set t sound (from - 1) j all takes b sent.opens o sent.listing);
      taken = subst (λ xs. IsListing TakenBefore (IsTake set t (from - 1) j) xs) (sym q) (block_taken set t from j all low takes);
      last = last_all set t sound.time (from - 1) j b s.last o last;
      silent = silent;
    }
