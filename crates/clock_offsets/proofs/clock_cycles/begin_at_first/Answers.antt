use Rattle.std.proofs.Common.{◌≡◌, ◌≤◌, List, [], ◌∷◌, Some, true, sym, ◌∙◌}
use Rattle.std.specs.Prelude.{nat_le, slice_get}
use Rattle.std.specs.List.{list_all}
use Rattle.std.proofs.lemmas.Bool.{leb-true}
use Rattle.std.proofs.lemmas.List.Elements.{All-tail, All-weaker}
use Rattle.std.proofs.lemmas.List.Sums.{AllPass-from_list_all}
use Rattle.clock_offsets.specs.declared.clock_cycles.ClockHop.{ClockHop}
use Rattle.clock_offsets.specs.ClockCycles.{BeginAtFirst}
use Rattle.clock_offsets.proofs.clock_cycles.begin_at_first.Goals as goal

from-first : (hops : List ClockHop) (first : ClockHop) → Some first ≡ slice_get hops 0
    → list_all (λ hop. nat_le first.event hop.event) hops ≡ true → BeginAtFirst hops
from-first [] first is e = tt
from-first (x ∷ hops) first is e =
    let same : first ≡ x = cc in
    rw (← same) (All-tail (λ hop. first.event ≤ hop.event) x hops
    (All-weaker _ (λ hop. first.event ≤ hop.event) (λ hop. leb-true first.event hop.event) (x ∷ hops)
    (AllPass-from_list_all (λ hop. nat_le first.event hop.event) (x ∷ hops) e)))

pub returns-in-Some : goal.returns-in-Some
returns-in-Some c = λ t. from-first c.args.hops.now c.in-Some.first.now c.in-Some.ensures.value (sym c.are_from.ensures ∙ t)
