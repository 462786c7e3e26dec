-- Silences and misses by the clock: each takes one time, and so the clock shows less than half of it or doesn't.
use Rattle.std.proofs.Common.{ℕ, ◌≡◌, ◌+◌, ◌-◌, ◌↔◌, ◌∙◌, Bool, true, false, IsTrue, List, Option, Some, None, refl, sym, subst}
use Rattle.std.specs.Prelude.{MatchOption}
use Rattle.std.proofs.lemmas.Option.{none-some, same_Some}
use Rattle.step_trace.specs.Traces.{Recorded}
use Rattle.step_tables.specs.Told.{Said}
use Rattle.run_story.specs.declared.stalls.Stall.{Stall}
use Rattle.run_page.specs.Spreads.{Lasts, passed}
use Rattle.run_page.specs.TickSteps.{IsStepIn}

module _ (t : Recorded) (said : List Said) (s : Stall) where
  -- its time is that between the steps before and after it
  pub time-between : (before after : ℕ) → ((k : ℕ) → IsStepIn t s.gap.proc (s.gap.from - 1) k ↔ (Some before ≡ Some k)) → ((k : ℕ)
      → IsStepIn t s.gap.proc (s.gap.to + 1) k ↔ (Some after ≡ Some k)) → (n : ℕ) → Lasts t said s n ↔ (passed said before after ≡ Some n)
  time-between before after b a n = (to, from) where
    to : Lasts t said s n → passed said before after ≡ Some n
    to lasts =
        let first = same_Some before lasts.before ((b lasts.before).0 lasts.step_before) in
        let last = same_Some after lasts.after ((a lasts.after).0 lasts.step_after) in
        (λ i. passed said (first i) (last i)) ∙ lasts.is

    from : passed said before after ≡ Some n → Lasts t said s n
    from e = record { before = before; after = after; step_before = (b before).1 refl; step_after = (a after).1 refl; is = e }

-- if evidence takes one time, a test of that time tells whether it takes a time that passes
pub one-time : (L P : ℕ → Type 0) (o : Option ℕ) → ((n : ℕ) → L n ↔ (o ≡ Some n))
    → (b : Bool) → MatchOption o (b ≡ false) (λ n. IsTrue b ↔ P n) → IsTrue b ↔ ((n : ℕ) × L n × P n)
one-time L P None h b f = (λ t. absurd (let wrong : true ≡ false = sym t ∙ f in cc), λ x. absurd (none-some x.0 ((h x.0).0 x.1)))
one-time L P (Some n) h b f = (λ t. (n, (h n).1 refl, f.0 t), λ x. f.1 (subst P (sym (same_Some n x.0 ((h x.0).0 x.1))) x.2))
