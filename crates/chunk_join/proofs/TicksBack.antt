-- One tick back: the level of the tick from that of the next one, and the levels of all.
use Rattle.std.proofs.Common.{ℕ, ◌≡◌, ◌+◌, ◌<◌, ◌≤◌, List, [], ◌∷◌, ◌++◌, length, replicate, suc, zero, Option, Some, None, refl, subst, arith}
use Rattle.std.proofs.lemmas.Option.{slice_get_within}
use Rattle.step_trace.specs.declared.rows.Gap.{Gap}
use Rattle.step_trace.specs.Traces.{Recorded}
use Rattle.step_trace.specs.Ticks.{IsTrace}
use Rattle.suffix_staircase.specs.declared.levels.Level.{Level}
use Rattle.suffix_staircase.specs.Levels.{StandsBefore, CanStandBefore, repeated}
use Rattle.suffix_staircase.specs.Analysis.{KnowsGaps}
use Rattle.suffix_staircase.proofs.GapBounds.{GapsLowered}
use Rattle.suffix_staircase.proofs.LevelBounds.{StandsBefore-itself, CanStandBefore-through, IsLevelAt-from_known, AreLevelsFrom-before, AreLevelsFrom-after_all, KnowsGaps-after_all}
use Rattle.chunk_join.specs.declared.summaries.Message.{Message}
use Rattle.chunk_join.specs.Summaries.{Summary}
use Rattle.chunk_join.specs.Sufficient.{Suffices}
use Rattle.chunk_join.specs.Finishes.{last_at, with_silence, SentFrom, BeginAfter, HasMissesFrom, IsGoneOver, IsQuietFrom}
use Rattle.chunk_join.proofs.MessagesBack.{StandsBefore-through, HasMissesFrom-all, KnowsMisses-from_left}
use Rattle.chunk_join.proofs.SilencesBack.{StandsBefore-with_silence, GapsLowered-with_silence}

-- Before any tick is scanned there is no level.
pub IsGoneOver-none : (part : Summary) (level : Level) → level.delta ≡ 1 → level.miss ≡ None → level.phi ≡ 1
    → level.gap ≡ None → IsGoneOver part (part.to + 1) (length part.sent) (length part.silent) level []
IsGoneOver-none part level d m f w = record {
  count = let e : 0 + (part.to + 1) ≡ part.to + 1 = omega arith in e;
  messages_within = omega arith;
  silences_within = omega arith;
  positive = omega (arith, f);
  falling = tt;
  sent = λ k x l h. absurd (omega (arith, slice_get_within part.sent k x h, l));
  silent = λ k x l h. absurd (omega (arith, slice_get_within part.silent k x h, l));
  misses = HasMissesFrom-all part level d m;
  ticks = record {
    gaps = λ set t sound a. (let e = a.to in rw (f, w, e) (KnowsGaps-after_all set t));
    each = λ set t sound a. (let e = a.to in rw e (AreLevelsFrom-after_all set t));
  };
}

-- What is known once the messages and silences of tick g are scanned, except the longest gap from g on. `old` is the
-- level of the next tick, and `mid` has the misses of the messages of g.
pub record IsTickRead (part : Summary) (g messages silences : ℕ) (old mid : Level) : Type 0 where
  pub start : 1 ≤ g
  pub messages_within : messages ≤ length part.sent
  pub silences_within : silences ≤ length part.silent
  pub falling : StandsBefore mid old
  pub phi : mid.phi ≡ old.phi
  pub gap : mid.gap ≡ old.gap
  pub sent : SentFrom part.sent g messages
  pub earlier : (m : Message) → last_at part.sent messages ≡ Some m → m.sent.tick < g
  pub misses : HasMissesFrom part messages mid
  pub silent : BeginAfter part.silent g silences
  pub begun : (w : Gap) → last_at part.silent silences ≡ Some w → w.from ≤ g

-- the level with the longest gap from the tick on may come before those so far, and is the tick's
pub record IsTickBack (part : Summary) (g messages silences : ℕ) (new : Level) (levels : List Level) : Type 0 where
  pub falling : CanStandBefore new levels
  pub known : IsGoneOver part g messages silences new (new ∷ levels)

pub IsTickBack-read : (part : Summary) (g m s n o : ℕ) (old mid : Level) (levels : List Level) → IsGoneOver part (g + 1) m s old levels
    → IsTickRead part g n o old mid → IsTickBack part g n o (with_silence mid g (last_at part.silent o)) levels
IsTickBack-read part g m s n o old mid levels known read = record {
  falling = CanStandBefore-through new old levels falling known.falling;
  known = record {
    count = omega (arith, known.count);
    messages_within = read.messages_within;
    silences_within = read.silences_within;
    positive = omega (arith, falling.phi, known.positive);
    falling = StandsBefore-itself new;
    sent = read.sent;
    silent = read.silent;
    misses = λ set t sound a. (let l = lowered set t sound a in let d = l.delta in let w = l.miss in rw (d, w) (read.misses set t sound a));
    ticks = record {
      gaps = λ set t sound a. (lowered set t sound a).gaps;
      each = λ set t sound a. (let l = lowered set t sound a in
          let d = l.delta in
          let w = l.miss in
          AreLevelsFrom-before set t g new levels
          (IsLevelAt-from_known set t g new read.start
          (rw (d, w) (KnowsMisses-from_left part g n mid read.messages_within read.sent read.earlier read.misses set t sound a)) l.gaps)
          (known.ticks.each set t sound a));
    };
  };
} where
  new : Level
  new = with_silence mid g (last_at part.silent o)

  falling : StandsBefore new old
  falling = StandsBefore-through new mid old (StandsBefore-with_silence mid g (last_at part.silent o)) read.falling

  positive : 1 ≤ mid.phi
  positive = omega (arith, read.phi, known.positive)

  lowered : (set : ℕ) (t : Recorded) → IsTrace t → Suffices set t part → GapsLowered set t g mid new
  lowered set t sound a =
      let gaps : KnowsGaps set t (g + 1) mid.phi mid.gap =
      (let p = read.phi in let q = read.gap in rw (p, q) (known.ticks.gaps set t sound a)) in
      GapsLowered-with_silence set t part a o g mid read.start positive read.silences_within read.silent read.begun gaps

-- a silence that gives no longer gap leaves the level unchanged
with_silence-short : (level : Level) (g : ℕ) (o : Option Gap)
    → 1 ≤ level.phi → ((w : Gap) → o ≡ Some w → w.to + 1 < g + level.phi) → with_silence level g o ≡ level
with_silence-short level g None positive h = refl
with_silence-short level g (Some w) positive h = let short = h w refl in grind (arith, short, positive)

-- if it is quiet, the level of the next tick is that of the tick
pub IsGoneOver-quiet : (part : Summary) (x low m s : ℕ) (level : Level) (levels : List Level) → low ≤ x
    → IsGoneOver part (x + 1) m s level levels → IsQuietFrom part low m s level.phi
    → IsGoneOver part x m s level (level ∷ levels)
IsGoneOver-quiet part x low m s level levels above known quiet =
    let start = quiet.start in
    subst (λ (l : Level). IsGoneOver part x m s l (l ∷ levels))
    (with_silence-short level x (last_at part.silent s) known.positive (λ w e. omega (arith, quiet.short w e, above)))
    (IsTickBack-read part x m s m s level level levels known (record {
      start = omega (arith, start, above);
      messages_within = known.messages_within;
      silences_within = known.silences_within;
      falling = StandsBefore-itself level;
      phi = refl;
      gap = refl;
      sent = λ k y l h. omega (arith, known.sent k y l h);
      earlier = λ y e. omega (arith, quiet.message y e, above);
      misses = known.misses;
      silent = λ k w l h. omega (arith, known.silent k w l h);
      begun = λ w e. omega (arith, quiet.begun w e, above);
    })).known

-- so the levels of ticks down to which it is quiet are that of the tick after them
pub IsGoneOver-repeated : (part : Summary) (k low m s : ℕ) (level : Level) (levels : List Level)
    → IsGoneOver part (low + k) m s level (level ∷ levels) → IsQuietFrom part low m s level.phi
    → IsGoneOver part low m s level (repeated k (level ∷ levels))
IsGoneOver-repeated part k low m s level levels known quiet = down k low (omega arith) known where
  down : (n x : ℕ) → low ≤ x → IsGoneOver part (x + n) m s level (level ∷ levels)
      → IsGoneOver part x m s level (replicate n level ++ level ∷ levels)
  down zero x above here = let same : x + 0 ≡ x = omega arith in rw same at here
  down (suc n) x above here =
      let next : x + suc n ≡ x + 1 + n = omega arith in
      IsGoneOver-quiet part x low m s level (replicate n level ++ level ∷ levels) above
      (down n (x + 1) (omega (arith, above)) (rw next at here)) quiet
