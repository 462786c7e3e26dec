-- The digests of the workers' shares, joined in their order.
use Rattle.std.proofs.Common.{ℕ, ◌≡◌, ◌+◌, ◌-◌, ◌/◌, ◌<◌, inl, inr, List, [], ◌∷◌, ◌++◌, length, Some, None, Option, sym, ap, subst, ◌∙◌, suc, arith}
use Rattle.std.specs.Prelude.{Result, Ok, Err, IfOk, slice_get}
use Rattle.std.proofs.Math.Nat.{zero-div, zero-mul, mul-div_cancel_left}
use Rattle.std.specs.declared.thread.PromisedHandle.{PromisedHandle}
use Rattle.step_trace.specs.Traces.{Recorded}
use Rattle.step_trace.proofs.StepPositions.{slice_get-push_cases}
use Rattle.chunk_join.specs.declared.analyses.DigestOf.{DigestOf}
use Rattle.chunk_join.specs.Summaries.{Summary}
use Rattle.chunk_join.specs.Digests.{IsDigestOf}
use Rattle.chunk_join.specs.Analyses.{ArePromised, IsPromised, IsDigestBetween, cut}

-- a kept promise, in the terms of the trace and the workers
share_digest : {E G : Type 0} (p : DigestOf G) (set : ℕ) (trace : Recorded) (gate : G) (workers n : ℕ) → IsPromised set trace gate workers
    (n + 1) p → (right : Result (Option Summary) E) → IfOk right (IsDigestBetween p.set p.trace.value (p.share.from - 1) p.share.to)
    → IfOk right (IsDigestBetween set trace (cut trace.last workers n) (cut trace.last workers (n + 1)))
share_digest p set trace gate workers n is right kept =
    let e : n + 1 - 1 ≡ n = omega arith in
    let from : p.share.from ≡ cut trace.last workers n + 1 = is.share.from ∙ ap (λ m. cut trace.last workers m + 1) e in
    let low : p.share.from - 1 ≡ cut trace.last workers n = omega (arith, from) in
    let a = subst (λ s. IfOk right (IsDigestBetween s p.trace.value (p.share.from - 1) p.share.to)) is.members kept in
    let b = subst (λ t. IfOk right (IsDigestBetween set t (p.share.from - 1) p.share.to)) is.trace_is a in
    let c = subst (λ i. IfOk right (IsDigestBetween set trace i p.share.to)) low b in
    subst (λ j. IfOk right (IsDigestBetween set trace (cut trace.last workers n) j)) is.share.to c

cut_zero : (ticks workers : ℕ) → 0 ≡ cut ticks workers 0
cut_zero ticks workers = sym (ap (λ x. x / workers) (zero-mul ticks) ∙ zero-div workers)

cut_all : (ticks workers : ℕ) → 0 < workers → cut ticks workers workers ≡ ticks
cut_all ticks workers some = mul-div_cancel_left ticks some

-- both as one
after : {E : Type 0} (all right more : Result (Option Summary) E) (set : ℕ) (trace : Recorded) (i j k : ℕ)
    → IfOk more (λ digest. (set : ℕ) (trace : Recorded) (i j k : ℕ)
    → IfOk all (IsDigestBetween set trace i j) → IfOk right (IsDigestBetween set trace j k) → IsDigestBetween set trace i k digest)
    → IfOk all (IsDigestBetween set trace i j) → IfOk right (IsDigestBetween set trace j k) → IfOk more (IsDigestBetween set trace i k)
after all right (Ok digest) set trace i j k both a b = both set trace i j k a b
after all right (Err e) set trace i j k both a b = tt

module _ {T G : Type 0} where
  pub ArePromised-push : (set : ℕ) (trace : Recorded) (gate : G) (workers : ℕ)
      (threads : List (PromisedHandle T (DigestOf G))) (thread : PromisedHandle T (DigestOf G))
      → ArePromised set trace gate workers threads → IsPromised set trace gate workers
      (length threads + 1) thread.promise → ArePromised set trace gate workers (threads ++ thread ∷ [])
  ArePromised-push set trace gate workers threads thread are is = λ k other h. elim (slice_get-push_cases threads thread other k h) [
    | inl old ↦ are k other old
    | inr new ↦ subst (λ x. IsPromised set trace gate workers (k + 1) x.promise) new.1
        (subst (λ n. IsPromised set trace gate workers (n + 1) thread.promise) (sym new.0) is)
  ]

  module _ {E : Type 0} where
    -- Some of these threads were joined, and the rest are left.
    pub record AreJoined (threads : List (PromisedHandle T (DigestOf G)))
        (all : Result (Option Summary) E) (rest : List (PromisedHandle T (DigestOf G))) : Type 0 where
      pub done : ℕ
      pub count : done + length rest ≡ length threads
      pub left : (k : ℕ) → slice_get rest k ≡ slice_get threads (done + k)
      pub digest : (set : ℕ) (trace : Recorded) (gate : G) (workers : ℕ) → 0 < workers
          → ArePromised set trace gate workers threads
          → IfOk all (IsDigestBetween set trace 0 (cut trace.last workers done))

    pub AreJoined-none : (threads : List (PromisedHandle T (DigestOf G))) (unit : Option Summary)
        → unit ≡ None → AreJoined threads (Ok unit) threads
    AreJoined-none threads unit e = record {
      done = 0;
      count = omega arith;
      left = λ k. ap (slice_get threads) (omega arith);
      digest = λ set trace gate workers some are sound. subst (IsDigestOf (record { set = set; trace = trace; sound = sound }) 0
          (cut trace.last workers 0)) (sym e) (cut_zero trace.last workers);
    }

    pub AreJoined-more : (threads : List (PromisedHandle T (DigestOf G))) (all right more : Result (Option Summary) E)
        (thread : PromisedHandle T (DigestOf G)) (rest : List (PromisedHandle T (DigestOf G)))
        → AreJoined threads all (thread ∷ rest)
        → IfOk right (IsDigestBetween thread.promise.set thread.promise.trace.value
        (thread.promise.share.from - 1) thread.promise.share.to)
        → IfOk more (λ digest. (set : ℕ) (trace : Recorded) (i j k : ℕ) → IfOk all (IsDigestBetween set trace i j)
        → IfOk right (IsDigestBetween set trace j k) → IsDigestBetween set trace i k digest)
        → AreJoined threads more rest
    AreJoined-more threads all right more thread rest was kept both = record {
      done = was.done + 1;
      count = let c : was.done + suc (length rest) ≡ length threads = was.count in omega (arith, c);
      left = λ k. (let l : slice_get rest k ≡ slice_get threads (was.done + suc k) = was.left (suc k) in
          let e : was.done + suc k ≡ was.done + 1 + k = omega arith in l ∙ ap (slice_get threads) e);
      digest = λ set trace gate workers some are. (
          let e : was.done + 0 ≡ was.done = omega arith in
          let at : slice_get threads was.done ≡ Some thread = ap (slice_get threads) (sym e) ∙ sym (was.left 0) in
          let own = share_digest thread.promise set trace gate workers was.done (are was.done thread at) right kept in
          after all right more set trace 0 (cut trace.last workers was.done)
          (cut trace.last workers (was.done + 1)) both (was.digest set trace gate workers some are) own);
    }

    pub AreJoined-all : (threads : List (PromisedHandle T (DigestOf G))) (all : Result (Option Summary) E)
        (rest : List (PromisedHandle T (DigestOf G))) → AreJoined threads all rest → length rest ≡ 0
        → IfOk all (λ digest. (set : ℕ) (trace : Recorded) (gate : G) (workers : ℕ) → 0 < workers
        → ArePromised set trace gate workers threads
        → IsDigestBetween set trace 0 (cut trace.last workers (length threads)) digest)
    AreJoined-all threads (Ok digest) rest was none = λ set trace gate workers some are. (
        let e : was.done ≡ length threads = omega (arith, was.count, none) in
        subst (λ n. IsDigestBetween set trace 0 (cut trace.last workers n) digest) e (was.digest set trace gate workers some are))
    AreJoined-all threads (Err e) rest was none = tt

    -- the shares of all workers are all ticks
    pub IsDigestBetween-whole : (threads : List (PromisedHandle T (DigestOf G))) (all : Result (Option Summary) E)
        (set : ℕ) (trace : Recorded) (gate : G) (workers : ℕ) → 0 < workers → length threads ≡ workers
        → ArePromised set trace gate workers threads
        → IfOk all (λ digest. (set : ℕ) (trace : Recorded) (gate : G) (workers : ℕ) → 0 < workers
        → ArePromised set trace gate workers threads → IsDigestBetween set trace 0
        (cut trace.last workers (length threads)) digest) → IfOk all (IsDigestBetween set trace 0 trace.last)
    IsDigestBetween-whole threads (Ok digest) set trace gate workers some count are joined = subst (λ n. IsDigestBetween
        set trace 0 n digest) (ap (cut trace.last workers) count ∙ cut_all trace.last workers some) (joined set trace gate workers some are)
    IsDigestBetween-whole threads (Err e) set trace gate workers some count are joined = tt
