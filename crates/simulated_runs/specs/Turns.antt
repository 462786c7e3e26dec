-- Who may step next, so that each live processor can step by its deadline.
use Rattle.std.specs.Prelude.{ℕ, ◌≡◌, ◌≢◌, ◌+◌, ◌<◌, ◌≤◌, ◌⊎◌, List, Some, length, max, slice_get}
use Rattle.simulated_runs.specs.declared.turns.Turn.{Turn}

-- After tick x each turn can be taken by its deadline: one in each tick after x, in their order.
abbrev pub AreInTime : List Turn → ℕ → Type 0
AreInTime queue x = (k : ℕ) (t : Turn) → slice_get queue k ≡ Some t → x + k < t.deadline

-- no turn up to this place is p's
abbrev pub AreOfOthers : List Turn → ℕ → ℕ → Type 0
AreOfOthers queue p k = (j : ℕ) (t : Turn) → j ≤ k → slice_get queue j ≡ Some t → t.proc ≢ p

-- p may step in tick x: each turn before its own can still be taken after x. Who has no turn may if all can.
abbrev pub MayStep : List Turn → ℕ → ℕ → Type 0
MayStep queue x p = (k : ℕ) (t : Turn) → slice_get queue k ≡ Some t → AreOfOthers queue p k → x + k < t.deadline

-- the turn is one of these
abbrev pub IsTurnIn : List Turn → Turn → Type 0
IsTurnIn queue t = (k : ℕ) × (slice_get queue k ≡ Some t)

-- p has a turn
abbrev pub HasTurn : List Turn → ℕ → Type 0
HasTurn queue p = (t : Turn) × IsTurnIn queue t × (t.proc ≡ p)

-- p has none
abbrev pub HasNoTurn : List Turn → ℕ → Type 0
HasNoTurn queue p = (k : ℕ) (t : Turn) → slice_get queue k ≡ Some t → t.proc ≢ p

-- the first turn of p is at this place
pub record IsFirstTurn (queue : List Turn) (p place : ℕ) : Type 0 where
  pub turn : Turn
  pub at : slice_get queue place ≡ Some turn
  pub own : turn.proc ≡ p
  pub first : (j : ℕ) (t : Turn) → j < place → slice_get queue j ≡ Some t → t.proc ≢ p

-- the turn of p once it stepped in tick x, if the bound holds from the stabilization time on
abbrev pub next_turn : ℕ → ℕ → ℕ → ℕ → Turn
next_turn gst phi x p = record { proc = p; deadline = max x gst + phi }

-- The turns after p stepped in tick x.
pub record ArePassed (gst phi : ℕ) (old new : List Turn) (x p : ℕ) : Type 0 where
  pub count : length new ≡ length old
  pub each : (t : Turn) → IsTurnIn new t → IsTurnIn old t ⊎ (HasTurn old p × (t ≡ next_turn gst phi x p))
  pub kept : (q : ℕ) → HasTurn old q → HasTurn new q
  pub in_time : (before : ℕ) → before + 1 ≡ x → length old ≤ phi → MayStep old x p → AreInTime old before
      → AreInTime new x
