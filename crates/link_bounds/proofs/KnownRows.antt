-- What is known of gaps and misses from a tick on makes rows.
use Rattle.std.proofs.Common.{ℕ, ◌+◌, ◌<◌, ◌≤◌, inl, inr, Option, Some, None, IsTrue, arith}
use Rattle.std.proofs.lemmas.Bool.{cases_lt}
use Rattle.step_trace.specs.declared.rows.Gap.{Gap}
use Rattle.step_trace.specs.declared.rows.Miss.{Miss}
use Rattle.step_trace.specs.Processors.{has_proc}
use Rattle.step_trace.specs.Traces.{Recorded}
use Rattle.step_trace.specs.Ticks.{tick_of, IsTimed}
use Rattle.step_trace.specs.Witnesses.{IsMiss, NamesGap}
use Rattle.step_trace.proofs.BoundDecisions.{delivered_or_not}
use Rattle.step_trace.proofs.TickOrder.{ticks_rise}
use Rattle.suffix_staircase.specs.Analysis.{KnowsGaps}
use Rattle.suffix_staircase.proofs.GapBounds.{IsPhi-from_gaps}
use Rattle.suffix_staircase.proofs.LongestGaps.{member_range}
use Rattle.link_bounds.specs.declared.bounds.LeastBound.{LeastBound}
use Rattle.link_bounds.specs.Evidence.{NamesLatest}
use Rattle.link_bounds.specs.Links.{only, IsMessageOn, LinkHolds, NamesLinkMiss}
use Rattle.link_bounds.specs.KnownGaps.{IsOwnGap, KnowsGapsOf}
use Rattle.link_bounds.specs.KnownMisses.{IsLaterMiss, KnowsMissesOf, KnowsLink}
use Rattle.link_bounds.specs.Passes.{AreBefore}
use Rattle.link_bounds.specs.Rows.{IsSentFrom, IsPhiRow, IsDeltaRow}
use Rattle.link_bounds.proofs.NotedEvidence.{AllowsAll-positive}
use Rattle.link_bounds.proofs.OwnGaps.{only_member}

-- the gaps of one processor, as those of a set
KnowsGaps-only : (t : Recorded) (g p : ℕ) (bound : LeastBound Gap)
    → 1 ≤ p → KnowsGapsOf t p g bound → KnowsGaps (only p) t g bound.least bound.witness
KnowsGaps-only t g p bound low k =
    record { shorter = λ w i a. k.shorter w (record { gap = i; from = a }); named = go bound.witness k.named } where
      go : (w : Option Gap) → NamesLatest Gap (IsOwnGap t p g) (λ w. w.from) (λ w. w.from) (λ w. w.to + 1) bound.least w
          → NamesGap (only p) t g bound.least w
      go None h = h
      go (Some w) h = let named = h.1 in let long = named.long in (
        h.0,
        record {
          gap = named.counts.gap;
          from = named.counts.from;
          long = omega arith;
          greatest = λ o i a e. named.latest o (record { gap = i; from = a }) (omega arith);
          least = λ o i s e. (let own = only_member p w.proc low named.counts.gap.member in
              let other = only_member p o.proc low i.member in omega arith);
        },
      )

-- the row of a member
pub IsPhiRow-from_known : (members : ℕ) (t : Recorded) (g p : ℕ) (bound : LeastBound Gap)
    → 1 ≤ g → IsTrue (has_proc members p) → KnowsGapsOf t p g bound → IsPhiRow members t g p bound
IsPhiRow-from_known members t g p bound start member k =
    let gaps = KnowsGaps-only t g p bound (member_range members p member).0 k in
    record { member = member; least = IsPhi-from_gaps (only p) t g bound.least bound.witness start gaps; named = gaps.named }

-- a message sent in tick g or later comes after the steps before
sent_after : (t : Recorded) (g done members p q s : ℕ) → AreBefore t g done → IsMessageOn members t.steps p q s → g ≤ tick_of t s → done < s
sent_after t g done members p q s before m from = elim
    (cases_lt done s) [ inl l ↦ l | inr early ↦ absurd (let low = before.below s _ m.sent early in omega arith) ]

-- the row of a link with a message
module _ (members : ℕ) (t : Recorded) (time : IsTimed t)
    (g done p q : ℕ) (bound : LeastBound Miss) (before : AreBefore t g done) (k : KnowsMissesOf members t p q done bound) where
  positive : 1 ≤ bound.least
  positive = AllowsAll-positive Miss (λ m. m.sent)
      (λ m. tick_of t m.sent) (λ m. tick_of t m.missed) (IsLaterMiss members t p q done) bound k

  holds : LinkHolds members t p q g bound.least
  holds = record {
    each = λ s from m. record {
      on_time = λ r b v receive late. elim (delivered_or_not t s (tick_of t r)) [
        | inl h ↦ h
        | inr none ↦ absurd (
            let miss : IsMiss members t (record { sent = s; missed = r }) =
            record { to = b; message = v; receive = receive; late = omega (arith, positive); undelivered = none } in
            let short = k.shorter (record { sent = s; missed = r })
            (record { miss = record { miss = miss; link = m }; after = sent_after t g done members p q s before m from }) in
            omega arith)
      ];
    };
  }

  least : (w : Option Miss) → NamesLatest Miss (IsLaterMiss members t p q done) (λ m. m.sent)
      (λ m. tick_of t m.sent) (λ m. tick_of t m.missed) bound.least w → (e : ℕ) → 1 ≤ e → LinkHolds members t p q g e → bound.least ≤ e
  least None h e low holds = omega arith
  least (Some m) h e low holds = elim (cases_lt e bound.least) [
    | inr high ↦ high
    | inl below ↦ (let named = h.1 in
        let long = named.long in
        let counts = named.counts in
        let miss = counts.miss.miss in
        let from = before.above m.sent _ counts.miss.link.sent counts.after in
        absurd
        (miss.undelivered ((holds.each m.sent from counts.miss.link).on_time m.missed miss.to miss.message miss.receive (omega arith))))
  ]

  named : (w : Option Miss) → NamesLatest Miss (IsLaterMiss members t p q done) (λ m. m.sent) (λ m. tick_of t m.sent)
      (λ m. tick_of t m.missed) bound.least w → NamesLinkMiss members t p q g bound.least w
  named None h = h
  named (Some m) h = let n = h.1 in let counts = n.counts in (
    h.0,
    record {
      miss = counts.miss;
      from = before.above m.sent _ counts.miss.link.sent counts.after;
      long = n.long;
      latest = λ o i from e. ticks_rise t time o.sent m.sent _ _ i.link.sent counts.miss.link.sent
          (n.latest o (record { miss = i; after = sent_after t g done members p q o.sent before i.link from }) e);
    },
  )

  pub IsDeltaRow-from_known : ((s : ℕ) × (done < s) × IsMessageOn members t.steps p q s) → IsDeltaRow members t g p q bound
  IsDeltaRow-from_known some = record {
    sent = (some.0, record { message = some.2; from = before.above some.0 _ some.2.sent some.1 });
    least = record { positive = positive; holds = holds; least = least bound.witness k.named };
    named = named bound.witness k.named;
  }

-- a link without a message has none in tick g or later
pub none_sent : (members : ℕ) (t : Recorded) (g done p q s : ℕ)
    → AreBefore t g done → KnowsLink members t p q done None → ¬ IsSentFrom members t p q g s
none_sent members t g done p q s before none sent = none s (sent_after t g done members p q s before sent.message sent.from) sent.message
