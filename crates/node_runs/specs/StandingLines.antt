-- The lines in which a follower reports how synchronous a run is (docs/FORMATS.md).
use Rattle.std.specs.Prelude.{ℕ, List, [], ◌∷◌, ◌++◌, Option, Some, None, codes, decimal}
use Rattle.node_runs.specs.declared.standings.LeastBounds.{LeastBounds}
use Rattle.node_runs.specs.declared.standings.Standing.{Standing}

-- two bounds, with the tick from which they hold
abbrev pub bounds_words : LeastBounds → List ℕ
bounds_words b = codes "delta "
    ++ (decimal b.delta ++ (codes ", phi " ++ (decimal b.phi ++ (codes " from tick " ++ decimal b.from))))

-- the member that makes no step from a tick on, if there is one
abbrev pub silence_words : Option ℕ → ℕ → List ℕ
silence_words None since = []
silence_words (Some p) since = codes "; processor "
    ++ (decimal p ++ (codes " makes no step since tick " ++ decimal since))

-- the line of a trace's bounds; one without a tick has no steps
abbrev pub standing_line : Option Standing → List ℕ
standing_line None = codes "synchrony: tick 0: no steps"
standing_line (Some s) = codes "synchrony: tick "
    ++ (decimal s.tick
    ++ (codes ": "
    ++ (bounds_words s.whole
    ++ (codes "; " ++ (bounds_words s.recent ++ silence_words s.silent s.recent.from)))))

-- the same with its line feed
abbrev pub told_standing : Option Standing → List ℕ
told_standing s = standing_line s ++ 10 ∷ []

-- the line that reports that the follower stops, with its line feed
abbrev pub told_stop : List ℕ
told_stop = codes "synchrony: no longer followed: out of memory" ++ 10 ∷ []
