-- The digest of a part of a trace: its summary without what later messages and silences make needless (own). A message
-- that no Receive of the part takes stays, since its fate is open. A silence that reaches the part's first or last tick
-- stays, since it may go on beyond. Of the others only those stay that are longer than all that come later.
use Rattle.std.specs.Prelude.{ℕ, ◌≡◌, ◌+◌, ◌-◌, ◌||◌, Bool, true, false, Option, Some, None, nat_le}
use Rattle.step_trace.specs.declared.rows.Gap.{Gap}
use Rattle.step_trace.specs.Traces.{Recorded}
use Rattle.chunk_join.specs.declared.summaries.Place.{Place}
use Rattle.chunk_join.specs.declared.summaries.Fate.{Fate}
use Rattle.chunk_join.specs.declared.summaries.Fate.TheVariants.{Open, Taken}
use Rattle.chunk_join.specs.declared.summaries.Message.{Message}
use Rattle.chunk_join.specs.Summaries.{Summary, IsSummary, Whole, IsPartBy, IsListing}
use Rattle.chunk_join.specs.Summaries.{IsSent, IsLongest, SentBefore, EndsBefore}
use Rattle.chunk_join.specs.Parts.{joined_parts, joined_by}
use Rattle.chunk_join.specs.Thinning.{thinned, IsUndominated}

abbrev pub is_open_fate : Fate → Bool
is_open_fate Open = true
is_open_fate (Taken missed) = false

-- no Receive of the part takes the message
abbrev pub is_open : Message → Bool
is_open m = is_open_fate m.fate

-- the length of a miss by this Receive
abbrev pub long_from : Place → Option Place → ℕ
long_from sent None = 0
long_from sent (Some r) = r.tick - sent.tick

abbrev pub fate_long : Place → Fate → ℕ
fate_long sent Open = 0
fate_long sent (Taken missed) = long_from sent missed

-- the length of its last miss, if it is taken
abbrev pub miss_long : Message → ℕ
miss_long m = fate_long m.sent m.fate

-- the silence reaches the first or the last of these ticks
abbrev pub reaches_edge : ℕ → ℕ → Gap → Bool
reaches_edge from to w = nat_le w.from from || nat_le to w.to

abbrev pub gap_long : Gap → ℕ
gap_long w = w.to + 1 - w.from

-- a summary without what is needless
abbrev pub digest : Summary → Summary
digest s = record {
  set = s.set;
  from = s.from;
  to = s.to;
  sent = thinned is_open miss_long s.sent;
  taken = s.taken;
  last = s.last;
  silent = thinned (reaches_edge s.from s.to) gap_long s.silent;
}

-- this is the digest of the part from cut i to cut j
abbrev pub IsDigest : ℕ → Recorded → ℕ → ℕ → Summary → Type 0
IsDigest set trace i j d = (s : Summary) × IsSummary set trace i j s × (d ≡ digest s)

-- the part, by its digest
abbrev pub IsDigestOf : Whole → ℕ → ℕ → Option Summary → Type 0
IsDigestOf = IsPartBy IsDigest

abbrev pub joined_digests : Option Summary → Option Summary → Option Summary
joined_digests = joined_by (λ l r. digest (joined_parts l r))

-- What a digest keeps of the trace: of the messages sent in the part and of its longest silences, exactly the
-- undominated ones.
pub record HasUndominated (set : ℕ) (trace : Recorded) (i j : ℕ) (d : Summary) : Type 0 where
  pub sent : IsListing SentBefore (IsUndominated SentBefore is_open miss_long (IsSent set trace i j)) d.sent
  pub silent : IsListing EndsBefore
      (IsUndominated EndsBefore (reaches_edge (i + 1) j) gap_long (IsLongest set trace i j)) d.silent

-- so of a part that may be empty
abbrev pub KeepsUndominated : ℕ → Recorded → ℕ → ℕ → Option Summary → Type 0
KeepsUndominated set trace i j None = i ≡ j
KeepsUndominated set trace i j (Some d) = HasUndominated set trace i j d
