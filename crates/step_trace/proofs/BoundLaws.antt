-- Laws of bounds and of their witnesses.
use Rattle.std.proofs.Common.{ℕ, ◌≡◌, ◌<◌, ◌≤◌, inl, inr, List, Option, Some, None, refl, ap, sym, ◌∙◌, subst, arith}
use Rattle.std.specs.Prelude.{IfSome}
use Rattle.std.proofs.lemmas.Bool.{cases_lt}
use Rattle.std.proofs.lemmas.Option.{same_Some}
use Rattle.step_trace.specs.declared.steps.Step.{Step}
use Rattle.step_trace.specs.declared.rows.Miss.{Miss}
use Rattle.step_trace.specs.declared.rows.Gap.{Gap}
use Rattle.step_trace.specs.Steps.{act_dest}
use Rattle.step_trace.specs.Traces.{Recorded}
use Rattle.step_trace.specs.Ticks.{tick_of, IsTimed}
use Rattle.step_trace.specs.Bounds.{IsMessage, DeltaHolds, PhiHolds, IsLeastBound}
use Rattle.step_trace.specs.Witnesses.{MissRefutes, GapRefutes, IsNamedMiss, IsNamedGap, NamesMiss, NamesGap}
use Rattle.step_trace.proofs.TickOrder.{one_in_tick}

-- what holds from g holds from every later h
pub DeltaHolds-later : (set : ℕ) (trace : Recorded) (g h d : ℕ) → g ≤ h → DeltaHolds set trace g d → DeltaHolds set trace h d
DeltaHolds-later set trace g h d l b = record { each = λ s m. b.each s (omega arith) }

-- and so does a processor bound
pub PhiHolds-later : (set : ℕ) (trace : Recorded) (g h f : ℕ) → g ≤ h → PhiHolds set trace g f → PhiHolds set trace h f
PhiHolds-later set trace g h f l b = record { each = λ x m. b.each x (omega arith) }

-- past the last tick each communication bound holds
pub DeltaHolds-past_end : (set : ℕ) (trace : Recorded) (g d : ℕ) → IsTimed trace → trace.last < d → DeltaHolds set trace g d
DeltaHolds-past_end set trace g d time l = record {
  each = λ s m. record { on_time = λ r b v w f. absurd (let q = (time.inside r _ w.step).1 in omega arith) };
}

-- and each processor bound
pub PhiHolds-past_end : (set : ℕ) (trace : Recorded) (g f : ℕ) → 1 ≤ g → trace.last < f → PhiHolds set trace g f
PhiHolds-past_end set trace g f o l = record { each = λ x m k p q. absurd (omega arith) }

-- a positive bound that holds, below which no positive one does, is the least
pub IsLeastBound-none_below : (Holds : ℕ → Type 0) (d : ℕ)
    → 1 ≤ d → Holds d → ((e : ℕ) → e < d → 1 ≤ e → Holds e → ⊥) → IsLeastBound Holds d
IsLeastBound-none_below Holds d p h n = record {
  positive = p;
  holds = h;
  least = λ e q k. elim (cases_lt e d) [ inl l ↦ absurd (n e l q k) | inr l ↦ l ];
}

-- there is one least bound
pub IsLeastBound-unique : (Holds : ℕ → Type 0) (d e : ℕ) → IsLeastBound Holds d → IsLeastBound Holds e → d ≡ e
IsLeastBound-unique Holds d e a b =
    let l = a.least e b.positive b.holds in
    let m = b.least d a.positive a.holds in
    omega arith

-- a bound that a witness refutes doesn't hold
pub MissRefutes-sound : (set : ℕ) (trace : Recorded) (g d : ℕ) (m : Miss) → MissRefutes set trace g d m → ¬ DeltaHolds set trace g d
MissRefutes-sound set trace g d m r h =
    r.miss.undelivered ((h.each m.sent r.from).on_time m.missed r.miss.to r.miss.message r.miss.receive r.long)

-- and neither does one that a gap refutes
pub GapRefutes-sound : (set : ℕ) (trace : Recorded) (g f : ℕ) (w : Gap) → GapRefutes set trace g f w → ¬ PhiHolds set trace g f
GapRefutes-sound set trace g f w r h =
    let l = r.long in
    let i = r.gap.inside in
    let s = h.each w.from r.from (omega arith) w.proc r.gap.member in
    let u = s.until in
    r.gap.silent s.tick s.from (omega arith) s.step

-- a named witness refutes each bound below its own
pub IsNamedMiss-refutes : (set : ℕ) (trace : Recorded) (g d e : ℕ) (m : Miss)
    → e < d → IsNamedMiss set trace g d m → MissRefutes set trace g e m
IsNamedMiss-refutes set trace g d e m l n = let q = n.long in record { miss = n.miss; from = n.from; long = omega arith }

-- and so does a named gap
pub IsNamedGap-refutes : (set : ℕ) (trace : Recorded) (g f e : ℕ) (w : Gap)
    → e < f → IsNamedGap set trace g f w → GapRefutes set trace g e w
IsNamedGap-refutes set trace g f e w l n = let q = n.long in record { gap = n.gap; from = n.from; long = omega arith }

-- so the witness of a bound refutes each smaller one, if there is a witness
pub NamesMiss-refutes : (set : ℕ) (trace : Recorded) (g d : ℕ) (o : Option Miss)
    → NamesMiss set trace g d o → IfSome o (λ m. (e : ℕ) → e < d → MissRefutes set trace g e m)
NamesMiss-refutes set trace g d None n = tt
NamesMiss-refutes set trace g d (Some m) n = λ e l. IsNamedMiss-refutes set trace g d e m l n.1

-- and so does the gap of a processor bound
pub NamesGap-refutes : (set : ℕ) (trace : Recorded) (g f : ℕ) (o : Option Gap)
    → NamesGap set trace g f o → IfSome o (λ w. (e : ℕ) → e < f → GapRefutes set trace g e w)
NamesGap-refutes set trace g f None n = tt
NamesGap-refutes set trace g f (Some w) n = λ e l. IsNamedGap-refutes set trace g f e w l n.1

-- a message has one receiver
pub IsMessage-receiver : (set : ℕ) (steps : List Step) (s a b : ℕ) → IsMessage set steps s a → IsMessage set steps s b → a ≡ b
IsMessage-receiver set steps s a b m n =
    let same = same_Some _ _ (sym m.sent ∙ n.sent) in
    same_Some a b (ap (λ (x : Step). act_dest x.act) same)

-- misses with equal fields are one
pub Miss-same : (m o : Miss) → m.sent ≡ o.sent → m.missed ≡ o.missed → m ≡ o
Miss-same m o p q = ap (λ (s : ℕ). let x : Miss = record { sent = s; missed = m.missed } in x) p
    ∙ ap (λ (r : ℕ). let x : Miss = record { sent = o.sent; missed = r } in x) q

-- and so are gaps
pub Gap-same : (v w : Gap) → v.proc ≡ w.proc → v.from ≡ w.from → v.to ≡ w.to → v ≡ w
Gap-same v w p q r =
    ap (λ (a : ℕ). let x : Gap = record { proc = a; from = v.from; to = v.to } in x) p
    ∙ ap (λ (a : ℕ). let x : Gap = record { proc = w.proc; from = a; to = v.to } in x) q
    ∙ ap (λ (a : ℕ). let x : Gap = record { proc = w.proc; from = w.from; to = a } in x) r

-- a witness that is named from g, and the one named from a later h for the same bound, are one
pub IsNamedMiss-steady : (set : ℕ) (trace : Recorded) (g h d : ℕ) (m o : Miss)
    → IsTimed trace → g ≤ h → IsNamedMiss set trace g d m → IsNamedMiss set trace h d o → o ≡ m
IsNamedMiss-steady set trace g h d m o time l a b =
    let from = b.from in
    let p = a.long in
    let q = b.long in
    let below = a.latest o b.miss (omega arith) b.long in
    let above = b.latest m a.miss (omega (arith, below, from)) a.long in
    let same : tick_of trace o.sent ≡ tick_of trace m.sent = omega (arith, below, above) in
    let fewer = a.greatest o b.miss same b.long in
    let more = b.greatest m a.miss (sym same) a.long in
    let sent : o.sent ≡ m.sent = omega (arith, fewer, more) in
    let to = IsMessage-receiver set trace.steps m.sent b.miss.to a.miss.to
    (subst (λ s. IsMessage set trace.steps s b.miss.to) sent b.miss.message) a.miss.message in
    Miss-same o m sent (one_in_tick trace time o.missed m.missed _ _ b.miss.receive.step a.miss.receive.step to (omega (arith, same, p, q)))

-- and so are gaps
pub IsNamedGap-steady : (set : ℕ) (trace : Recorded) (g h f : ℕ) (v w : Gap)
    → g ≤ h → IsNamedGap set trace g f v → IsNamedGap set trace h f w → w ≡ v
IsNamedGap-steady set trace g h f v w l a b =
    let from = b.from in
    let p = a.long in
    let q = b.long in
    let below : w.from ≤ v.from = a.greatest w b.gap (omega arith) b.long in
    let above : v.from ≤ w.from = b.greatest v a.gap (omega arith) a.long in
    let less : v.proc ≤ w.proc = a.least w b.gap (omega arith) b.long in
    let more : w.proc ≤ v.proc = b.least v a.gap (omega arith) a.long in
    Gap-same w v (omega arith) (omega arith) (omega arith)

-- if the bound from g is the bound from a later h too, so is its witness
pub NamesMiss-steady : (set : ℕ) (trace : Recorded) (g h d : ℕ) (m o : Option Miss)
    → IsTimed trace → g ≤ h → NamesMiss set trace g d m → NamesMiss set trace h d o → o ≡ m
NamesMiss-steady set trace g h d None None time l a b = refl
NamesMiss-steady set trace g h d None (Some o) time l a b = absurd (let q : 1 < d = b.0 in omega arith)
NamesMiss-steady set trace g h d (Some m) None time l a b = absurd (let q : 1 < d = a.0 in omega arith)
NamesMiss-steady set trace g h d (Some m) (Some o) time l a b =
    ap (λ (x : Miss). Some x) (IsNamedMiss-steady set trace g h d m o time l a.1 b.1)

-- and so is the gap
pub NamesGap-steady : (set : ℕ) (trace : Recorded) (g h f : ℕ) (v w : Option Gap)
    → g ≤ h → NamesGap set trace g f v → NamesGap set trace h f w → w ≡ v
NamesGap-steady set trace g h f None None l a b = refl
NamesGap-steady set trace g h f None (Some w) l a b = absurd (let q : 1 < f = b.0 in omega arith)
NamesGap-steady set trace g h f (Some v) None l a b = absurd (let q : 1 < f = a.0 in omega arith)
NamesGap-steady set trace g h f (Some v) (Some w) l a b = ap (λ (x : Gap). Some x) (IsNamedGap-steady set trace g h f v w l a.1 b.1)
