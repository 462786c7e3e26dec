-- The named witnesses of a tick reach to the end of the stretch over which its bounds stay the least.
use Rattle.std.proofs.Common.{ℕ, ◌≡◌, ◌+◌, ◌-◌, ◌<◌, ◌≤◌, inl, inr, Option, Some, None, arith}
use Rattle.std.specs.Prelude.{IsSomeAnd}
use Rattle.std.proofs.lemmas.Bool.{cases_lt}
use Rattle.step_trace.specs.Traces.{Recorded}
use Rattle.step_trace.specs.declared.rows.Miss.{Miss}
use Rattle.step_trace.specs.declared.rows.Gap.{Gap}
use Rattle.step_trace.specs.Ticks.{tick_of}
use Rattle.step_trace.specs.Bounds.{DeltaHolds, PhiHolds, IsDelta, IsPhi}
use Rattle.step_trace.specs.Witnesses.{IsNamedMiss, IsNamedGap, NamesMiss, NamesGap, MissRefutes, GapRefutes}
use Rattle.step_trace.proofs.BoundDecisions.{delivered_or_not, steps_within_or_not}

-- the named miss of h is of a message sent in g or later, if the bound is the least one from both
pub named_miss-reaches : (set : ℕ) (trace : Recorded) (h g d : ℕ) (m : Miss) → h ≤ g → 1 < d
    → DeltaHolds set trace h d → IsDelta set trace g d → IsNamedMiss set trace h d m → g ≤ tick_of trace m.sent
named_miss-reaches set trace h g d m later more holds least named = elim (cases_lt (tick_of trace m.sent) g) [
  | inr reaches ↦ reaches
  | inl short ↦ (
      let smaller : DeltaHolds set trace g (d - 1) = record {
        each = λ s from. record {
          on_time = λ r b message receive late. elim (delivered_or_not trace s (tick_of trace r)) [
            | inl delivered ↦ delivered
            | inr undelivered ↦ elim (cases_lt (tick_of trace r) (tick_of trace s + d)) [
              | inr very_late ↦ absurd (undelivered ((holds.each s (omega arith)).on_time r b message receive very_late))
              | inl r_below ↦ (
                  let at_most : tick_of trace s ≤ tick_of trace m.sent = named.latest (record { sent = s; missed = r })
                  (record { to = b; message = message; receive = receive; late = omega arith; undelivered = undelivered })
                  (omega arith) (omega arith) in
                  absurd (omega arith))
            ]
          ];
        };
      } in
      let at_least : d ≤ d - 1 = least.least (d - 1) (omega arith) smaller in
      absurd (omega arith))
]

-- the named gap of h begins at g or later, if the bound is the least one from both
pub named_gap-reaches : (set : ℕ) (trace : Recorded) (h g f : ℕ) (w : Gap) → 1 ≤ h → h ≤ g → 1 < f
    → IsPhi set trace g f → IsNamedGap set trace h f w → g ≤ w.from
named_gap-reaches set trace h g f w start later more least named = elim (cases_lt w.from g) [
  | inr reaches ↦ reaches
  | inl short ↦ (
      let smaller : PhiHolds set trace g (f - 1) = record {
        each = λ x from end p member. elim (steps_within_or_not trace p x (f - 1)) [
          | inl stepped ↦ stepped
          | inr silent ↦ (
              let at_most : x ≤ w.from = named.greatest (record { proc = p; from = x; to = x + (f - 2) })
              (record {
                member = member;
                start = omega arith;
                order = omega arith;
                inside = omega arith;
                silent = λ z low high step. silent (record { tick = z; from = low; until = omega arith; step = step });
              })
              (omega arith) (omega arith) in
              absurd (omega arith))
        ];
      } in
      let at_least : f ≤ f - 1 = least.least (f - 1) (omega arith) smaller in
      absurd (omega arith))
]

-- the miss of the bound refutes each smaller one up to there
pub miss-refutes : (set : ℕ) (trace : Recorded) (h g d : ℕ) (miss : Option Miss) → h ≤ g
    → DeltaHolds set trace h d → IsDelta set trace g d → NamesMiss set trace h d miss
    → (e : ℕ) → 1 ≤ e → e < d → IsSomeAnd miss (λ m. MissRefutes set trace g e m)
miss-refutes set trace h g d None later holds least names e low high = absurd (omega arith)
miss-refutes set trace h g d (Some m) later holds least names e low high =
    let named = names.1 in
    let long : tick_of trace m.sent + d ≡ tick_of trace m.missed + 1 = named.long in
    record { miss = named.miss; from = named_miss-reaches set trace h g d m later names.0 holds least named; long = omega arith }

pub gap-refutes : (set : ℕ) (trace : Recorded) (h g f : ℕ) (gap : Option Gap) → 1 ≤ h → h ≤ g
    → IsPhi set trace g f → NamesGap set trace h f gap
    → (e : ℕ) → 1 ≤ e → e < f → IsSomeAnd gap (λ w. GapRefutes set trace g e w)
gap-refutes set trace h g f None start later least names e low high = absurd (omega arith)
gap-refutes set trace h g f (Some w) start later least names e low high =
    let named = names.1 in
    let long : w.from + f ≡ w.to + 2 = named.long in
    record { gap = named.gap; from = named_gap-reaches set trace h g f w start later names.0 least named; long = omega arith }
