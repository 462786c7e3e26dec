-- How many steps a processor makes, and how fast one that is left behind passes a phase.
use Rattle.std.proofs.Common.{ℕ, zero, suc, ◌≡◌, ◌+◌, ◌-◌, ◌*◌, ◌<◌, ◌≤◌, inl, inr, length, Some, true, cond, refl, ap, subst, ◌∙◌, arith, eq-eqb}
use Rattle.std.specs.Prelude.{count_by}
use Rattle.std.specs.List.{range_with_len}
use Rattle.std.proofs.lemmas.Bool.{le-leb}
use Rattle.std.proofs.lemmas.Option.{none-some}
use Rattle.patience_laws.proofs.Common.{Act, IsProc, has_proc, Recorded, step_at, IsStepOf, tick_of, IsTimed, PhiHolds}
use Rattle.patience_laws.proofs.Common.{part_of, IsRun, count_by-more, StepsByPace, IsInRoundFrom, HasHeardFrom}
use Rattle.patience_laws.proofs.Common.{is_step_since, sends_to, steps_since}
use Rattle.deciding_runs.proofs.NotedPeers.{heard-weaker}
use Rattle.patience_laws.proofs.RoundSends.{one-before, times-more}
use Rattle.patience_laws.proofs.RoundsHeard.{behind-ends}
use Rattle.patience_laws.proofs.RoundMessages.{few-all, few-one}
use Rattle.patience_laws.proofs.LeastRounds.{part-next}

module _ (trace : Recorded) (p x : ℕ) where
  -- a later step has no fewer before it
  since-rise : (j more : ℕ) → count_by (is_step_since trace p x) (range_with_len 1 j)
      ≤ count_by (is_step_since trace p x) (range_with_len 1 (j + more))
  since-rise j zero = let e : j + 0 ≡ j = omega arith in rw e (omega arith)
  since-rise j (suc more) =
      let e : j + suc more ≡ suc (j + more) = omega arith in
      rw e (omega (arith, since-rise j more, count_by-more (is_step_since trace p x) (j + more)))

  -- and one of p counts
  since-step : (j k : ℕ) (act : Act) → step_at trace.steps j ≡ Some (record { proc = p; act = act })
      → x ≤ tick_of trace j → j < k → steps_since trace p x j < steps_since trace p x k
  since-step zero k act at from l = absurd (none-some _ at)
  since-step (suc j) k act at from l =
      let passes : is_step_since trace p x (suc j) ≡ true = rw (at, eq-eqb p p refl) (le-leb x (tick_of trace (suc j)) from) in
      let more : count_by (is_step_since trace p x) (range_with_len 1 (suc j))
      ≡ count_by (is_step_since trace p x) (range_with_len 1 j) + 1 =
      count_by-more (is_step_since trace p x) j ∙ ap (λ b. count_by (is_step_since trace p x) (range_with_len 1 j) + cond b 1 0) passes in
      let e : suc j + (k - 1 - suc j) ≡ k - 1 = omega arith in
      let rise : count_by (is_step_since trace p x) (range_with_len 1 (suc j))
      ≤ count_by (is_step_since trace p x) (range_with_len 1 (k - 1)) =
      subst (λ n. count_by (is_step_since trace p x) (range_with_len 1 (suc j)) ≤ count_by (is_step_since trace p x) (range_with_len 1 n)) e
      (since-rise (suc j) (k - 1 - suc j)) in
      let f : suc j - 1 ≡ j = omega arith in
      let here : count_by (is_step_since trace p x) (range_with_len 1 (suc j - 1))
      ≡ count_by (is_step_since trace p x) (range_with_len 1 j) = ap (λ n. count_by (is_step_since trace p x) (range_with_len 1 n)) f in
      omega arith

module _ (trace : Recorded) (patience set g f p : ℕ) (run : IsRun trace.config trace.steps) (time : IsTimed trace) (paced : StepsByPace
    trace.config patience trace.steps p) (member : has_proc set p ≡ true) (phi : PhiHolds set trace g f) (x : ℕ) (since : g ≤ x) where
  -- In so many times f ticks p makes as many steps.
  pub makes-steps : (count k : ℕ) → IsStepOf trace.steps k p → x + count * f ≤ tick_of trace k → count ≤ steps_since trace p x k
  makes-steps zero k is late = omega arith
  makes-steps (suc count) k is late =
      let e = times-more count f in
      let one = one-before trace patience set g f p run time paced member phi (x + count * f) k (omega arith) is (omega arith) in
      let before = makes-steps count one.place (one.act, one.at) one.from in
      let more = since-step trace p x one.place k one.act one.at (omega (arith, one.from)) one.earlier in
      omega (arith, one.from)

  -- Who is left behind through a phase passes it in (2 N + 6) f ticks.
  pub catches-up : (q round : ℕ) → IsInRoundFrom trace p round x → 1 ≤ round → part_of round ≡ 1
      → IsProc trace.config q → HasHeardFrom trace p q (round + 8) x → IsInRoundFrom trace p (round + 4) (x + (2 * trace.config.n + 6) * f)
  catches-up q round there low part is heard =
      let e : round + 1 + 1 + 1 + 1 ≡ round + 4 = omega arith in
      let z : x4 + trace.config.n * f + f ≡ x + (2 * trace.config.n + 6) * f = grind arith in
      subst (IsInRoundFrom trace p (round + 4)) z (subst (λ r. IsInRoundFrom trace p r (x4 + trace.config.n * f + f)) e fifth)
    where
      x2 : ℕ
      x2 = x + 1 * f + f

      x3 : ℕ
      x3 = x2 + trace.config.n * f + f

      x4 : ℕ
      x4 = x3 + 1 * f + f

      heard-of : (r z : ℕ) → r + 5 ≤ round + 8 → x ≤ z → HasHeardFrom trace p q (r + 5) z
      heard-of r z l late k receive by = heard-weaker trace.steps p q
          (round + 8) (r + 5) k k l (omega arith) (heard k receive (omega arith))

      next : (r z most : ℕ) → g ≤ z → x ≤ z → r ≤ round + 3 → IsInRoundFrom trace p r z
          → length (sends_to trace.config trace.steps p r) ≤ most → IsInRoundFrom trace p (r + 1) (z + most * f + f)
      next r z most l late up at few = behind-ends trace patience set g f p run time paced member phi r z l at most few q is
          (heard-of r (z + most * f) (omega arith) (omega arith))

      part2 : part_of (round + 1) ≡ 2
      part2 = part-next round 1 low (omega arith) part

      part3 : part_of (round + 1 + 1) ≡ 3
      part3 = part-next (round + 1) 2 (omega arith) (omega arith) part2

      second : IsInRoundFrom trace p (round + 1) x2
      second = next round x 1 since (omega arith) (omega arith) there (few-one trace.config trace.steps p round (inl part))

      third : IsInRoundFrom trace p (round + 1 + 1) x3
      third = next (round + 1) x2 trace.config.n (omega arith)
          (omega arith) (omega arith) second (few-all trace.config trace.steps p (round + 1))

      fourth : IsInRoundFrom trace p (round + 1 + 1 + 1) x4
      fourth = next (round + 1 + 1) x3 1 (omega arith)
          (omega arith) (omega arith) third (few-one trace.config trace.steps p (round + 1 + 1) (inr part3))

      fifth : IsInRoundFrom trace p (round + 1 + 1 + 1 + 1) (x4 + trace.config.n * f + f)
      fifth = next (round + 1 + 1 + 1) x4 trace.config.n
          (omega arith) (omega arith) (omega arith) fourth (few-all trace.config trace.steps p (round + 1 + 1 + 1))
