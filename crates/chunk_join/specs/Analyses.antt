-- A trace that several workers summarise, each its share of the ticks (own).
use Rattle.std.specs.Prelude.{ℕ, ◌≡◌, ◌+◌, ◌-◌, ◌*◌, ◌/◌, ◌<◌, ◌≤◌, ◌⊎◌, Bool, true}
use Rattle.std.specs.Prelude.{false, List, Option, slice_get, Some, Result, Ok, Err}
use Rattle.std.specs.declared.thread.PromisedHandle.{PromisedHandle}
use Rattle.step_trace.specs.Traces.{Recorded}
use Rattle.step_trace.specs.Ticks.{IsTrace}
use Rattle.chunk_join.specs.declared.analyses.TheConstants.{MAX_WORKERS}
use Rattle.chunk_join.specs.declared.analyses.DigestOf.{DigestOf}
use Rattle.chunk_join.specs.declared.analyses.Share.{Share}
use Rattle.chunk_join.specs.declared.analyses.AnalyseError.{AnalyseError}
use Rattle.chunk_join.specs.declared.analyses.AnalyseError.TheVariants as unanalysed
use Rattle.chunk_join.specs.declared.analyses.Stop.{Stop}
use Rattle.chunk_join.specs.declared.analyses.Stop.TheVariants as stopped
use Rattle.chunk_join.specs.Summaries.{Summary}
use Rattle.chunk_join.specs.Digests.{IsDigestOf}

-- there are no workers, or too many
abbrev pub AreBadWorkers : ℕ → Type 0
AreBadWorkers workers = (workers ≡ 0) ⊎ (MAX_WORKERS < workers)

-- the tick at which the share of worker w ends, of so many ticks and workers
abbrev pub cut : ℕ → ℕ → ℕ → ℕ
cut ticks workers w = w * ticks / workers

-- the digest of this set and trace from cut i to cut j
abbrev pub IsDigestBetween : ℕ → Recorded → ℕ → ℕ → Option Summary → Type 0
IsDigestBetween set trace i j digest = (sound : IsTrace trace)
    → IsDigestOf (record { set = set; trace = trace; sound = sound }) i j digest

-- the share of worker w, of so many ticks and workers: those from the one after the share before
pub record IsShare (ticks workers w : ℕ) (share : Share) : Type 0 where
  pub from : share.from ≡ cut ticks workers (w - 1) + 1
  pub to : share.to ≡ cut ticks workers w

-- The gate, of which these are the answers that each worker may get, may let all of so many workers in.
abbrev pub AreLetIn : (ℕ → Bool → Type 0) → ℕ → Type 0
AreLetIn lets workers = (w : ℕ) → 1 ≤ w → w ≤ workers → lets w true

-- It may hold one of so many workers back.
pub record IsHeldBack (lets : ℕ → Bool → Type 0) (workers : ℕ) : Type 0 where
  pub worker : ℕ
  pub low : 1 ≤ worker
  pub high : worker ≤ workers
  pub held : lets worker false

-- whether the gate let in a worker that gave this: all but one that was held back
abbrev pub was_let_in : {T : Type 0} → Result T Stop → Bool
was_let_in (Ok _) = true
was_let_in (Err stopped.Held) = false
was_let_in (Err stopped.Start) = true
was_let_in (Err stopped.Memory) = true

-- worker w promises the digest of its share of the trace, and what the gate answers it
pub record IsPromised {G : Type 0} (set : ℕ) (trace : Recorded) (gate : G) (workers w : ℕ)
    (promise : DigestOf G) : Type 0 where
  pub members : promise.set ≡ set
  pub trace_is : promise.trace.value ≡ trace
  pub share : IsShare trace.last workers w promise.share
  pub gate_is : promise.gate.value ≡ gate
  pub worker_is : promise.worker ≡ w

-- these threads promise the digests of the workers from the first on, in their order
abbrev pub ArePromised : {T G : Type 0} → ℕ → Recorded → G → ℕ → List (PromisedHandle T (DigestOf G)) → Type 0
ArePromised set trace gate workers threads = (k : ℕ) (thread : PromisedHandle _ (DigestOf _))
    → slice_get threads k ≡ Some thread → IsPromised set trace gate workers (k + 1) thread.promise

-- the gate may answer the worker of a thread so
abbrev pub IsAnswered : {T G : Type 0} → (G → ℕ → Bool → Type 0) → PromisedHandle T (DigestOf G) → Bool → Type 0
IsAnswered lets thread answer = lets thread.promise.gate.value thread.promise.worker answer

-- it may let in each of these threads' workers
abbrev pub AreAnswered : {T G : Type 0} → (G → ℕ → Bool → Type 0) → List (PromisedHandle T (DigestOf G)) → Type 0
AreAnswered lets threads = (k : ℕ) (thread : PromisedHandle _ (DigestOf _)) → slice_get threads k ≡ Some thread
    → IsAnswered lets thread true

-- It may hold the worker of one of these threads back.
pub record IsOneHeld {T G : Type 0} (lets : G → ℕ → Bool → Type 0)
    (threads : List (PromisedHandle T (DigestOf G))) : Type 0 where
  pub place : ℕ
  pub thread : PromisedHandle T (DigestOf G)
  pub at : slice_get threads place ≡ Some thread
  pub held : IsAnswered lets thread false

-- how grave a cause is: of several the gravest is reported
abbrev pub gravity : Stop → ℕ
gravity stopped.Held = 3
gravity stopped.Start = 2
gravity stopped.Memory = 1

-- the error that reports a cause
abbrev pub error_of : Stop → AnalyseError
error_of stopped.Held = unanalysed.Held
error_of stopped.Start = unanalysed.Start
error_of stopped.Memory = unanalysed.Memory
