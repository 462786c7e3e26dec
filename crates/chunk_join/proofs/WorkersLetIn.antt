-- What the gate answered the workers, as it is known of their threads.
use Rattle.std.proofs.Common.{ℕ, ◌≡◌, ◌+◌, ◌-◌, ◌<◌, ◌≤◌, ◌⊎◌, inl, inr, List, [], ◌∷◌, length, Some, refl, sym, ap, subst, ◌∙◌, zero, suc, arith, below_more}
use Rattle.std.specs.Prelude.{Bool, true, false, Result, Ok, Err, IfErr, OnOk, IsOk, slice_get}
use Rattle.std.proofs.lemmas.Option.{same_Some, slice_get_within}
use Rattle.std.specs.declared.thread.PromisedHandle.{PromisedHandle}
use Rattle.step_trace.specs.Traces.{Recorded}
use Rattle.chunk_join.specs.declared.analyses.DigestOf.{DigestOf}
use Rattle.chunk_join.specs.declared.analyses.Stop.{Stop}
use Rattle.chunk_join.specs.declared.analyses.Stop.TheVariants as stopped
use Rattle.chunk_join.specs.Analyses.{AreAnswered, AreLetIn, ArePromised, IsAnswered, IsHeldBack, IsOneHeld, was_let_in}

-- a worker that was held back isn't out of memory
held_is_no_memory : stopped.Held ≡ stopped.Memory → ⊥
held_is_no_memory e = cc

held_is_no_start : stopped.Held ≡ stopped.Start → ⊥
held_is_no_start e = cc

-- what is at a place
some_at : {X : Type 0} (xs : List X) (k : ℕ) → k < length xs → (x : X) × (slice_get xs k ≡ Some x)
some_at [] k h = absurd (let no : ⊥ = omega (arith, h) in no)
some_at (x ∷ xs) zero h = (x, refl)
some_at (x ∷ xs) (suc k) h = some_at xs k (omega (arith, h))

-- what follows from the one fact of an answer follows of the answer
pub on_ok : {X E : Type 0} (r : Result X E) (P Q : Type 0) → (P → Q) → OnOk r P → OnOk r Q
on_ok (Ok x) P Q h p = h p
on_ok (Err e) P Q h p = tt

pub on_held : {X : Type 0} (r : Result X Stop) (P Q : Type 0)
    → (P → Q) → IfErr r (λ stop. stop ≡ stopped.Held → P) → IfErr r (λ stop. stop ≡ stopped.Held → Q)
on_held (Ok x) P Q h p = tt
on_held (Err e) P Q h p = λ is. h (p is)

-- a thread that wasn't started holds nobody back: one of the others was held
pub unstarted_held : {X : Type 0} (others : Result X Stop) (stop : Stop) (P : Type 0)
    → (stop ≡ stopped.Start) ⊎ (others ≡ Err stop) → IfErr others (λ s. s ≡ stopped.Held → P) → stop ≡ stopped.Held → P
unstarted_held others stop P cause held is = elim cause [
  | inl start ↦ absurd (held_is_no_start (sym is ∙ start))
  | inr own ↦ (let before : stop ≡ stopped.Held → P = subst (λ x. IfErr x (λ s. s ≡ stopped.Held → P)) own held in before is)
]

module _ {T G : Type 0} (lets : G → ℕ → Bool → Type 0) where
  -- these are the threads of the first workers, one of which was held back
  pub one_held : (set : ℕ) (trace : Recorded) (gate : G) (workers : ℕ) (threads : List (PromisedHandle T (DigestOf G)))
      → length threads ≤ workers → ArePromised set trace gate workers threads → IsOneHeld lets threads → IsHeldBack (lets gate) workers
  one_held set trace gate workers threads few are h =
      let promised = are h.place h.thread h.at in
      let within = slice_get_within threads h.place h.thread h.at in
      record {
        worker = h.place + 1;
        low = omega arith;
        high = omega (arith, within, few);
        held = subst (λ w. lets gate w false) promised.worker_is
            (subst (λ x. lets x h.thread.promise.worker false) promised.gate_is h.held);
      }

  -- the worker of the thread at a place
  own_in : (set : ℕ) (trace : Recorded) (gate : G) (workers : ℕ) (threads : List (PromisedHandle T (DigestOf G)))
      → ArePromised set trace gate workers threads → AreAnswered lets threads
      → (k : ℕ) (thread : PromisedHandle T (DigestOf G)) → slice_get threads k ≡ Some thread → lets gate (k + 1) true
  own_in set trace gate workers threads are each k thread is =
      let promised = are k thread is in
      subst (λ w. lets gate w true) promised.worker_is (subst (λ x. lets x thread.promise.worker true) promised.gate_is (each k thread is))

  -- these are the threads of all workers, each of which was let in
  pub all_in : (set : ℕ) (trace : Recorded) (gate : G) (workers : ℕ) (threads : List (PromisedHandle T (DigestOf G)))
      → length threads ≡ workers → ArePromised set trace gate workers threads → AreAnswered lets threads → AreLetIn (lets gate) workers
  all_in set trace gate workers threads count are each = λ w low high. (
      let within : w - 1 < length threads = omega (arith, low, high, count) in
      let found = some_at threads (w - 1) within in
      let e : w - 1 + 1 ≡ w = omega (arith, low) in
      subst (λ n. lets gate n true) e (own_in set trace gate workers threads are each (w - 1) found.0 found.1))

  -- all before were let in, one more too
  one_more_in : (threads : List (PromisedHandle T (DigestOf G))) (done : ℕ) (thread : PromisedHandle T (DigestOf G))
      → slice_get threads done ≡ Some thread → IsAnswered lets thread true
      → ((k : ℕ) → k < done → (other : PromisedHandle T (DigestOf G)) → slice_get threads k ≡ Some other → IsAnswered lets other true)
      → (k : ℕ) → k < done + 1 → (other : PromisedHandle T (DigestOf G)) → slice_get threads k ≡ Some other → IsAnswered lets other true
  one_more_in threads done thread at own before =
      below_more (λ k. (other : PromisedHandle T (DigestOf G)) → slice_get threads k ≡ Some other → IsAnswered lets other true) done before
      (λ other is. subst (λ x. IsAnswered lets x true) (same_Some thread other (sym at ∙ is)) own)

  module _ {X : Type 0} where
    -- Some of these threads were joined, and the rest are left: what the gate may have answered their workers.
    pub record AreHeard (threads : List (PromisedHandle T (DigestOf G)))
        (all : Result X Stop) (rest : List (PromisedHandle T (DigestOf G))) : Type 0 where
      pub done : ℕ
      pub count : done + length rest ≡ length threads
      pub left : (k : ℕ) → slice_get rest k ≡ slice_get threads (done + k)
      pub entered : OnOk all ((k : ℕ) → k < done → (thread : PromisedHandle T (DigestOf G))
          → slice_get threads k ≡ Some thread → IsAnswered lets thread true)
      pub held : IfErr all (λ stop. stop ≡ stopped.Held → IsOneHeld lets threads)

    pub AreHeard-none : (threads : List (PromisedHandle T (DigestOf G))) (unit : X) → AreHeard threads (Ok unit) threads
    AreHeard-none threads unit = record {
      done = 0;
      count = omega arith;
      left = λ k. ap (slice_get threads) (omega arith);
      entered = λ k below thread at. absurd (let no : ⊥ = omega (arith, below) in no);
      held = tt;
    }

    -- the next thread, at its place
    next_at : (threads : List (PromisedHandle T (DigestOf G))) (all : Result X Stop) (thread : PromisedHandle T (DigestOf G)) (rest : List
        (PromisedHandle T (DigestOf G))) → (was : AreHeard threads all (thread ∷ rest)) → slice_get threads was.done ≡ Some thread
    next_at threads all thread rest was =
        let e : was.done + 0 ≡ was.done = omega arith in
        ap (slice_get threads) (sym e) ∙ sym (was.left 0)

    more_in : (threads : List (PromisedHandle T (DigestOf G))) (all right more : Result X Stop) (thread : PromisedHandle T (DigestOf G))
        (rest : List (PromisedHandle T (DigestOf G))) → (was : AreHeard threads all (thread ∷ rest))
        → IsAnswered lets thread (was_let_in right) → OnOk more (IsOk all × IsOk right) → OnOk more ((k : ℕ)
        → k < was.done + 1 → (other : PromisedHandle T (DigestOf G)) → slice_get threads k ≡ Some other → IsAnswered lets other true)
    more_in threads (Ok a) (Ok b) (Ok m) thread rest was kept ok =
        one_more_in threads was.done thread (next_at threads (Ok a) thread rest was) kept was.entered
    more_in threads (Ok a) (Err b) (Ok m) thread rest was kept ok = let no : false ≡ true = ok.1 in cc
    more_in threads (Err a) right (Ok m) thread rest was kept ok = let no : false ≡ true = ok.0 in cc
    more_in threads all right (Err e) thread rest was kept ok = tt

    more_held : (threads : List (PromisedHandle T (DigestOf G))) (all right more : Result X Stop) (thread : PromisedHandle T (DigestOf G))
        (rest : List (PromisedHandle T (DigestOf G))) → AreHeard threads all (thread ∷ rest) → IsAnswered lets thread (was_let_in right)
        → IfErr more (λ stop. (all ≡ Err stop) ⊎ (right ≡ Err stop) ⊎ (stop ≡ stopped.Memory))
        → IfErr more (λ stop. stop ≡ stopped.Held → IsOneHeld lets threads)
    more_held threads all right (Ok m) thread rest was kept cause = tt
    more_held threads all right (Err stop) thread rest was kept cause = λ is. elim cause [
      | inl one ↦ (let before : stop ≡ stopped.Held
          → IsOneHeld lets threads = subst (λ x. IfErr x (λ s. s ≡ stopped.Held → IsOneHeld lets threads)) one was.held in before is)
      | inr others ↦ elim others [
        | inl other ↦ record {
          place = was.done;
          thread = thread;
          at = next_at threads all thread rest was;
          held = subst (λ x. IsAnswered lets thread (was_let_in x)) (other ∙ ap Err is) kept;
        }
        | inr memory ↦ absurd (held_is_no_memory (sym is ∙ memory))
      ]
    ]

    pub AreHeard-more : (threads : List (PromisedHandle T (DigestOf G)))
        (all right more : Result X Stop) (thread : PromisedHandle T (DigestOf G)) (rest : List (PromisedHandle T (DigestOf G)))
        → AreHeard threads all (thread ∷ rest) → IsAnswered lets thread (was_let_in right) → OnOk more (IsOk all × IsOk right)
        → IfErr more (λ stop. (all ≡ Err stop) ⊎ (right ≡ Err stop) ⊎ (stop ≡ stopped.Memory)) → AreHeard threads more rest
    AreHeard-more threads all right more thread rest was kept ok cause = record {
      done = was.done + 1;
      count = let c : was.done + suc (length rest) ≡ length threads = was.count in omega (arith, c);
      left = λ k. (let l : slice_get rest k ≡ slice_get threads (was.done + suc k) = was.left (suc k) in
          let e : was.done + suc k ≡ was.done + 1 + k = omega arith in l ∙ ap (slice_get threads) e);
      entered = more_in threads all right more thread rest was kept ok;
      held = more_held threads all right more thread rest was kept cause;
    }

    pub AreHeard-all : (threads : List (PromisedHandle T (DigestOf G))) (all : Result X Stop)
        (rest : List (PromisedHandle T (DigestOf G))) → AreHeard threads all rest → length rest ≡ 0
        → OnOk all (AreAnswered lets threads)
    AreHeard-all threads (Ok a) rest was none = λ k thread at.
        (let e : was.done ≡ length threads = omega (arith, was.count, none) in
        was.entered k (subst (λ n. k < n) (sym e) (slice_get_within threads k thread at)) thread at)
    AreHeard-all threads (Err e) rest was none = tt
