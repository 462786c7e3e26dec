use Rattle.std.proofs.Common.{ℕ, ◌≡◌, ◌+◌, List, ◌∷◌, ◌++◌, [], None, subst, arith}
use Rattle.std.specs.Prelude.{IsSome}
use Rattle.step_trace.specs.declared.rows.Gap.{Gap}
use Rattle.step_trace.specs.declared.rows.Row.{Row}
use Rattle.run_story.specs.declared.stalls.Stall.{Stall}
use Rattle.run_story.specs.Stalls.{AreStalls, AreStallsTo, IsStall, gap_at}
use Rattle.run_story.proofs.Stretches.{stretches-push, stretches-skip}
use Rattle.run_story.proofs.ReportRows.{whole-stall}
use Rattle.run_story.proofs.stalls.stalls_of.Goals as goal
use Rattle.run_story.proofs.stalls.stalls_of.Goals.{After-loop-next}

-- one stall more
stalls-push : (rows : List Row) (n : ℕ) (stalls : List Stall) (s : Stall) → IsStall rows s → s.first ≡ n → AreStallsTo rows n stalls
    → AreStallsTo rows (s.last + 1) (stalls ++ s ∷ [])
stalls-push rows n stalls s stall begins are = stretches-push Stall
    (λ s. s.first) (λ s. s.last) (IsStall rows) (λ k. IsSome (gap_at rows k)) n stalls s stall begins stall.named.order are

-- a row with no gap
stalls-skip : (rows : List Row) (n : ℕ) (stalls : List Stall)
    → gap_at rows n ≡ None → AreStallsTo rows n stalls → AreStallsTo rows (n + 1) stalls
stalls-skip rows n stalls none are = stretches-skip Stall (λ s. s.first) (λ s. s.last)
    (IsStall rows) (λ k. IsSome (gap_at rows k)) n stalls (λ some. let found : IsSome {T = Gap} None = subst IsSome none some in cc) are

pub loop-next-preserved-in-Some : goal.loop-next-preserved-in-Some
loop-next-preserved-in-Some c = record {
  within = (let inside = c.in-Some.ensures.stall.named.inside in omega (arith, inside));
  listed = rw c.in_ok-push-in-Some.ensures.items (stalls-push c.args.rows.now c.loop-next.next
      c.loop-next.stalls.items c.in-Some.stall c.in-Some.ensures.stall c.in-Some.ensures.first c.loop-next.invariant.listed);
}

pub loop-next-preserved : goal.loop-next-preserved
loop-next-preserved c = record {
  within = omega (arith, c.loop-next-test.true);
  listed = stalls-skip c.args.rows.now c.loop-next.next c.loop-next.stalls.items c.in-None.ensures.stall c.loop-next.invariant.listed;
}

all_stalls : (c : After-loop-next) → AreStalls c.args.rows.now c.loop-next.stalls.items
all_stalls c =
    subst (λ (n : ℕ). AreStallsTo c.args.rows.now n c.loop-next.stalls.items)
    (let within = c.loop-next.invariant.within in omega (arith, within, c.loop-next-test.false)) c.loop-next.invariant.listed

pub returns-clause-stalls : goal.returns-clause-stalls
returns-clause-stalls c = all_stalls c

pub returns-clause-whole : goal.returns-clause-whole
returns-clause-whole c = λ set trace time report s d.
    whole-stall set trace c.args.rows.now time report c.loop-next.stalls.items (all_stalls c) s d
