-- A walk over events in the order of their moments that notes the short silences before them (own).
use Rattle.std.specs.Prelude.{ℕ, ◌≡◌, ◌+◌, ◌-◌, ◌<◌, ◌≤◌, ◌⊎◌, ◌++◌, ◌∷◌, ◌&&◌, List, []}
use Rattle.std.specs.Prelude.{length, Bool, not, nat_lt, slice_index, if◌then◌else◌}
use Rattle.std.specs.List.{All, Contains}
use Rattle.step_trace.specs.declared.configurations.TheConstants.{MAX_PROCESSORS}
use Rattle.timed_events.specs.declared.events.Event.{Event}
use Rattle.timed_events.specs.declared.idle_ticks.IdleTick.{IdleTick}
use Rattle.timed_events.specs.CausalWalks.{index_at}
use Rattle.timed_events.specs.Checks.{processor_at, moment_of}
use Rattle.timed_events.specs.IdleTicks.{HasEventIn, IsShortSilence, IsIdleTick, AreRising}

-- whether the ticks after `since` up to y are at least one and at most `limit`
abbrev pub is_short : ℕ → ℕ → ℕ → Bool
is_short since y limit = nat_lt since y && not (nat_lt limit (y - since))

-- the list, and tick y of the processor with this index if its silence up to y is short
abbrev pub noted : List IdleTick → ℕ → ℕ → ℕ → ℕ → List IdleTick
noted idles index since y limit = if is_short since y limit then idles
    ++ record { processor = index + 1; tick = y } ∷ [] else idles

-- u is the last tick before t in which processor p has an event; 0 if there is none
pub record IsLatestBefore (events : List Event) (ticks : List ℕ) (p t u : ℕ) : Type 0 where
  pub from : (u ≡ 0) ⊎ HasEventIn events ticks p u
  pub below : u < t
  pub silent : (z : ℕ) → u < z → z < t → ¬ HasEventIn events ticks p z

-- the last tick of a processor is that of one of the first k events in the order
pub record IsLastAmong (events : List Event) (ticks order : List ℕ) (k index last : ℕ) : Type 0 where
  pub m : ℕ
  pub before : m < k
  pub own : index_at events (slice_index order m) ≡ index
  pub is : last ≡ slice_index ticks (slice_index order m)

-- a short silence ends right before one of the first k events in the order
pub record IsNoted (events : List Event) (ticks order : List ℕ) (limit k : ℕ) (x : IdleTick) : Type 0 where
  pub m : ℕ
  pub before : m < k
  pub own : x.processor ≡ processor_at events (slice_index order m)
  pub next : x.tick + 1 ≡ slice_index ticks (slice_index order m)
  pub silence : IsShortSilence events ticks limit x.processor x.tick

-- the list has the short silences that end right before the first k events in the order; `lasts`
-- are the last ticks of the processors among these events
pub record IsWalkedTo (events : List Event) (ticks order : List ℕ) (limit k : ℕ) (lasts : List ℕ)
    (idles : List IdleTick) : Type 0 where
  pub wide : length lasts ≡ MAX_PROCESSORS
  pub after : (m : ℕ) → m < k → slice_index ticks (slice_index order m) ≤ slice_index lasts
      (index_at events (slice_index order m))
  pub source : (s : ℕ) → (slice_index lasts s ≡ 0) ⊎ IsLastAmong events ticks order k s (slice_index lasts s)
  pub each : All (IsNoted events ticks order limit k) idles
  pub all : (m y : ℕ) → m < k → slice_index ticks (slice_index order m) ≡ y + 1
      → IsShortSilence events ticks limit (processor_at events (slice_index order m)) y
      → Contains idles (record { processor = processor_at events (slice_index order m); tick = y })
  pub rising : AreRising idles

-- the list has the short silences that end before some event, and those of the first `ended`
-- processors that end in the last tick
pub record HaveEnded (n : ℕ) (events : List Event) (ticks lasts : List ℕ) (last limit ended : ℕ)
    (idles : List IdleTick) : Type 0 where
  pub latest : (p : ℕ) → p < n → IsLatestBefore events ticks (p + 1) (last + 1) (slice_index lasts p)
  pub each : All (IsIdleTick n events ticks last limit) idles
  pub before : (p y : ℕ) → IsShortSilence events ticks limit p y → HasEventIn events ticks p (y + 1)
      → Contains idles (record { processor = p; tick = y })
  pub at_end : (p : ℕ) → p < ended → IsShortSilence events ticks limit (p + 1) last
      → Contains idles (record { processor = p + 1; tick = last })
  pub below : All (λ x. moment_of x.tick x.processor < moment_of last (ended + 1)) idles
  pub rising : AreRising idles
