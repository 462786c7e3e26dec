use Rattle.std.proofs.Common.{ap, subst, ◌∙◌}
use Rattle.node_runs.specs.Standings.{NamesSilent, recent_tick}
use Rattle.node_runs.proofs.standings.standing_of.Goals as goal

-- there are as many levels as ticks
pub returns-clause-standing : goal.returns-clause-standing
returns-clause-standing c = λ set trace levels.
    let last = c.len-last.ensures.value ∙ levels.count in
    let since = c.recent_tick-since.ensures.value ∙ ap recent_tick last in
    record {
      tick = last;
      first = c.bounds_from.ensures.from;
      whole = c.bounds_from.ensures.least set trace levels;
      since = c.bounds_from-2.ensures.from ∙ since;
      recent = c.bounds_from-2.ensures.least set trace levels;
      silent = subst (λ g. NamesSilent set trace g c.silent_since.result) since (c.silent_since.ensures set trace levels);
    }
