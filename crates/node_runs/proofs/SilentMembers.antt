-- Members that make no step from a tick on, by the level of that tick.
use Rattle.std.proofs.Common.{ℕ, ◌≡◌, ◌+◌, ◌≤◌, Some, None, sym, subst, arith}
use Rattle.step_trace.specs.declared.rows.Gap.{Gap}
use Rattle.step_trace.specs.Bounds.{IsPhi}
use Rattle.step_trace.specs.Traces.{Recorded}
use Rattle.step_trace.specs.Witnesses.{IsGap, NamesGap}
use Rattle.node_runs.specs.Standings.{IsSilentSince, NamesSilent}

-- while a member makes no step from tick g on, no bound holds that the trace has room for
too_long : (set : ℕ) (trace : Recorded) (g f p : ℕ) → IsPhi set trace g f → IsSilentSince set trace g p → trace.last + 2 ≤ g + f
too_long set trace g f p phi silent =
    let no_room : g + f ≤ trace.last + 1 → ⊥ = λ room. (
    let made = phi.holds.each g (omega arith) room p silent.member in
    let until = made.until in
    silent.silent made.tick made.from (omega (arith, until, room)) made.step) in
    omega (arith, no_room)

-- a bound of 1 holds only if each member steps in each tick
pub none_silent : (set : ℕ) (trace : Recorded) (g f : ℕ) → IsPhi set trace g f → NamesGap set trace g f None → NamesSilent set trace g None
none_silent set trace g f phi one = λ p silent.
    let long = too_long set trace g f p phi silent in
    let order = silent.order in
    omega (arith, long, one, order)

-- the named gap is as long as the silence, and so is one from tick g to the last
pub whole_window : (set : ℕ) (trace : Recorded) (g f p : ℕ) (w : Gap)
    → IsPhi set trace g f → NamesGap set trace g f (Some w) → IsSilentSince set trace g p → (w.from ≡ g) × (w.to ≡ trace.last)
whole_window set trace g f p w phi named silent =
    let long = too_long set trace g f p phi silent in
    let own = named.1.long in
    let from = named.1.from in
    let inside = named.1.gap.inside in
    (omega (arith, long, own, from, inside), omega (arith, long, own, from, inside))

-- a gap that is neither leaves no silent member
pub other_gap : (set : ℕ) (trace : Recorded) (g f : ℕ) (w : Gap)
    → IsPhi set trace g f → NamesGap set trace g f (Some w) → ((w.from ≡ g) × (w.to ≡ trace.last) → ⊥) → NamesSilent set trace g None
other_gap set trace g f w phi named other = λ p silent. other (whole_window set trace g f p w phi named silent)

-- one that goes from tick g to the last is that of the least silent member
pub named_silent : (set : ℕ) (trace : Recorded) (g f : ℕ) (w : Gap)
    → NamesGap set trace g f (Some w) → w.from ≡ g → w.to ≡ trace.last → NamesSilent set trace g (Some w.proc)
named_silent set trace g f w named from to =
    let long = named.1.long in (
      subst (λ x. IsGap set trace (record { proc = w.proc; from = g; to = x })) to
          (subst (λ x. IsGap set trace (record { proc = w.proc; from = x; to = w.to })) from named.1.gap),
      λ o silent. named.1.least (record { proc = o; from = g; to = trace.last }) silent (sym from) (omega (arith, long, from, to)),
    )
