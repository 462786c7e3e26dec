-- Messages that go round a cycle of clocks.
use Rattle.std.proofs.Common.{ℕ, ◌≡◌, List, [], ◌∷◌, ◌++◌, subst, sym, refl, ap, ◌∙◌, ℤ, pos, ◌+ℤ◌}
use Rattle.std.proofs.lemmas.List.Sums.{fold-append}
use Rattle.timed_events.specs.declared.events.Event.{Event}
use Rattle.clock_offsets.specs.declared.clock_cycles.ClockHop.{ClockHop}
use Rattle.clock_offsets.specs.ClockCycles.{IsClockHop, LeadFrom, took_together}
use Rattle.clock_offsets.specs.EventNeeds.{clock_at}

-- one message more
pub lead-more : (events : List Event) (from to : ℕ) (hops : List ClockHop) (hop : ClockHop)
    → LeadFrom events from hops to → IsClockHop events to hop
    → LeadFrom events from (hops ++ hop ∷ []) (clock_at events hop.event)
lead-more events from to [] hop e h = (subst (λ a. IsClockHop events a hop) (sym e) h, refl)
lead-more events from to (g ∷ hops) hop l h = (l.0, lead-more events (clock_at events g.event) to hops hop l.1 h)

pub lead-next : (events : List Event) (from to at : ℕ) (hops items : List ClockHop) (hop : ClockHop)
    → LeadFrom events from hops to → IsClockHop events to hop → items ≡ hops ++ hop ∷ []
    → at ≡ clock_at events hop.event → LeadFrom events from items at
lead-next events from to at hops items hop l h e f = subst (λ xs. LeadFrom events from xs at)
    (sym e) (subst (LeadFrom events from (hops ++ hop ∷ [])) (sym f) (lead-more events from to hops hop l h))

-- and they take as much longer together
pub took-next : (total sum : ℤ) (hops items : List ClockHop) (hop : ClockHop)
    → total ≡ took_together hops → sum ≡ total +ℤ hop.took → items ≡ hops ++ hop ∷ [] → sum ≡ took_together items
took-next total sum hops items hop t s e = s ∙ ap (λ x. x +ℤ hop.took) t
    ∙ sym (ap took_together e ∙ fold-append (λ x (h : ClockHop). x +ℤ h.took) (pos 0) hops (hop ∷ []))
