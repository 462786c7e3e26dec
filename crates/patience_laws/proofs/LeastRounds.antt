-- By which tick the least round of the members is over.
use Rattle.std.proofs.Common.{ℕ, suc, ◌≡◌, ◌+◌, ◌-◌, ◌*◌, ◌<◌, ◌≤◌, inl, inr, List, length, Option, Some, None, is_some}
use Rattle.std.proofs.Common.{true, false, ◌==◌, ◌||◌, not, refl, sym, ap, subst, ◌∙◌, arith, eq-eqb}
use Rattle.std.proofs.lemmas.Bool.{true≢false, eqb-true, and_parts, and_right}
use Rattle.patience_laws.proofs.Common.{Receive, Step, Setup, IsProc, has_proc, Recorded, Body, with_proper, State}
use Rattle.patience_laws.proofs.Common.{part_of, owner, phase_of, Part, Listing, Locking, Acknowledging, part_at}
use Rattle.patience_laws.proofs.Common.{locking-keeps, part_at-listing, part_at-locking, part_at-acknowledging}
use Rattle.patience_laws.proofs.Common.{list-sent, lock-sent, acknowledgement-sent, locks-sent}
use Rattle.patience_laws.proofs.Common.{passed-before, may_hear_in, IsInRoundFrom, sends_to, may_hear_of, KeepsBounds}
use Rattle.patience_laws.proofs.Common.{AreInTouch, AreInRoundFrom, node_in, OweAcknowledgements}
use Rattle.lock_phases.specs.declared.bodies.Kind.TheVariants.{List as Listed, Lock, Ack, Locks}
use Rattle.lock_phases.specs.NodeFunctions.{out, next, values_to_list}
use Rattle.round_model.specs.RoundStates.{state_after, messages_heard}
use Rattle.round_model.proofs.RoundEquations.{state_after-next}
use Rattle.step_buffers.specs.HeardTables.{passed, heard_table}
use Rattle.patience_laws.proofs.RoundSends.{times-more}
use Rattle.patience_laws.proofs.RoundsHeard.{taken-by, hears-ends}
use Rattle.patience_laws.proofs.RoundMessages.{few-all, few-one, few-none, IsSentBy, sent-by}
use Rattle.patience_laws.proofs.MemberRounds.{member-proc}

-- whom p may hear, by the part of the phase
pub may-in : (part : Part) (c : Setup) (steps : List Step) (p round q : ℕ) → part_at (part_of round) ≡ part
    → may_hear_of c steps p round q ≡ may_hear_in part (node_in c steps p round) (owner c.n (phase_of round)) p q
may-in part c steps p round q e = ap (λ x. may_hear_in x (node_in c steps p round) (owner c.n (phase_of round)) p q) e

-- the node in the next round
pub node-next : (c : Setup) (steps : List Step) (p round : ℕ) → 1 ≤ round → node_in c steps p (round + 1) ≡ next c
    (node_in c steps p round) p round (messages_heard c (heard_table steps) (state_after c (heard_table steps) (round - 1)) p round)
node-next c steps p round low =
    let e : round + 1 - 1 ≡ suc (round - 1) = omega arith in
    let f : suc (round - 1) ≡ round = omega arith in
    ap (λ n. state_after c (heard_table steps) n p) e ∙ state_after-next c (heard_table steps) (round - 1) p
    ∙ ap (λ n. next c (node_in c steps p round) p n
    (messages_heard c (heard_table steps) (state_after c (heard_table steps) (round - 1)) p n)) f

-- a locking round changes no proposal
pub proposal-kept : (c : Setup) (steps : List Step) (p round : ℕ)
    → 1 ≤ round → part_of round ≡ 2 → (node_in c steps p (round + 1)).proposal ≡ (node_in c steps p round).proposal
proposal-kept c steps p round low part = ap (λ (s : State). s.proposal) (node-next c steps p round low) ∙ (locking-keeps c (node_in c
    steps p round) p round (messages_heard c (heard_table steps) (state_after c (heard_table steps) (round - 1)) p round) part).proposal

-- which part the next round is
pub part-next : (round part : ℕ) → 1 ≤ round → part < 4 → part_of round ≡ part → part_of (round + 1) ≡ part + 1
part-next round part low few e = omega arith

-- nobody is heard by an owner without a proposal, in the locking and the acknowledging round
deaf-locking : (q o : ℕ) (s : State) → s.proposal ≡ None → may_hear_in Locking s o o q ≡ false
deaf-locking q o s none = rw (eq-eqb o o refl, none) (and_right (q == o) false refl)

deaf-acknowledging : (p q o : ℕ) (s : State) → s.proposal ≡ None → may_hear_in Acknowledging s o p q ≡ false
deaf-acknowledging p q o s none = rw none (and_right (p == o) false refl)

module _ (patience set : ℕ) (trace : Recorded) (g d f : ℕ) (keeps : KeepsBounds patience set trace g d f) (round x : ℕ)
    (touch : AreInTouch patience set trace g round x) (there : AreInRoundFrom set trace round x) (low : 1 ≤ round) where
  abbrev c : Setup
  c = trace.config

  -- each member that p may hear sends it something by tick y
  abbrev pub AreTold : ℕ → ℕ → Type 0
  AreTold p y = (q : ℕ) → has_proc set q ≡ true → may_hear_of c trace.steps p round q ≡ true → y ≤ trace.last → IsSentBy trace q p round y

  -- so its round is over
  pub told-ends : (p most y : ℕ) → has_proc set p ≡ true
      → length (sends_to c trace.steps p round) ≤ most → x + most * f ≤ y + d → AreTold p y → IsInRoundFrom trace p (round + 1) (y + d + f)
  told-ends p most y m few late told = hears-ends trace patience set g f p keeps.run keeps.trace_is.time
      (keeps.paced p m) m keeps.phi round x touch.since (there p m) most (y + d) few late keeps.within keeps.size (record {
        members = λ q mq may k receive by.
            let last = (keeps.trace_is.time.inside k (record { proc = p; act = Receive receive.ends receive.ids }) receive.step).1 in
            let s = told q mq may (omega arith) in
            let due = s.by in
            let taken = taken-by trace set g d p q s.message k keeps.trace_is keeps.delta m mq s.sent
            (touch.fresh p q s.message m mq s.sent s.later) receive (omega arith) in
            record { message = s.message; sent = s.sent; later = s.later; place = taken.place; take = taken.take; by = taken.by };
        others = λ q is none may k receive by. touch.silent p q m is none k receive (omega arith);
      })

  -- what q says to p in the round is sent in time
  pub says : (i p q : ℕ) (body : Body) → has_proc set q ≡ true → IsProc c p → length (sends_to c trace.steps q round) ≤ suc i
      → out c (node_in c trace.steps q round) q round p ≡ Some body → x + suc i * f ≤ trace.last → IsSentBy trace q p round (x + suc i * f)
  says i p q body m is few said last = sent-by trace patience set g f q keeps.run keeps.trace_is.time
      (keeps.paced q m) m keeps.phi round x touch.since (there q m) low i p body few is said last

  -- a listing round: each sends its list to the owner
  pub listing-ends : part_of round ≡ 1 → AreInRoundFrom set trace (round + 1) (x + f + d + f)
  listing-ends part p m = told-ends p 1 (x + f) m (few-one c trace.steps p round (inl part)) (let e = times-more 0 f in omega arith) told
    where
      told : AreTold p (x + f)
      told q mq may last =
          let own : p ≡ owner c.n (phase_of round) =
          eqb-true p (owner c.n (phase_of round)) (sym (may-in Listing c trace.steps p round q (part_at-listing round part)) ∙ may) in
          let e = times-more 0 f in
          let s = says 0 p q (with_proper (node_in c trace.steps q round) (Listed (values_to_list (node_in c trace.steps q round)))) mq
          (member-proc c set keeps.within p m) (few-one c trace.steps q round (inl part))
          (subst (λ to. out c (node_in c trace.steps q round) q round to ≡ Some
          (with_proper (node_in c trace.steps q round) (Listed (values_to_list (node_in c trace.steps q round)))))
          (sym own) (list-sent c (node_in c trace.steps q round) q round part)) (omega arith) in
          record { message = s.message; sent = s.sent; later = s.later; by = omega (arith, s.by) }

  -- a lock-release round: each sends its locks to all
  pub releasing-ends : part_of round ≡ 4 → AreInRoundFrom set trace (round + 1) (x + c.n * f + d + f)
  releasing-ends part p m = told-ends p c.n (x + c.n * f) m (few-all c trace.steps p round) (omega arith) told
    where
      told : AreTold p (x + c.n * f)
      told q mq may last =
          let is = member-proc c set keeps.within q mq in
          let first = is.0 in
          let high = is.1 in
          let e : suc (c.n - 1) ≡ c.n = omega arith in
          let few = few-all c trace.steps q round in
          let product : suc (c.n - 1) * f ≡ c.n * f = ap (λ n. n * f) e in
          let s = says (c.n - 1) p q (with_proper (node_in c trace.steps q round) (Locks (node_in c trace.steps q round).locks)) mq
          (member-proc c set keeps.within p m) (omega arith)
          (locks-sent c (node_in c trace.steps q round) q round p part) (omega arith) in
          record { message = s.message; sent = s.sent; later = s.later; by = omega (arith, s.by) }

  -- an acknowledging round in which all that are asked owe an acknowledgement
  pub acknowledging-ends : part_of round ≡ 3 → OweAcknowledgements set trace round → AreInRoundFrom set trace (round + 1) (x + f + d + f)
  acknowledging-ends part owe p m = told-ends p 1 (x + f) m
      (few-one c trace.steps p round (inr part)) (let e = times-more 0 f in omega arith) told where
        came : (q : ℕ) → has_proc set q ≡ true → x + f ≤ trace.last → round ≤ passed trace.steps q + 1
        came q mq last =
            let s = keeps.phi.each x touch.since (omega arith) q mq in
            let l = there q mq s.step.place s.step.step (omega (arith, s.step.tick, s.from)) in
            omega (arith, passed-before trace.steps q s.step.place, s.step.tick, s.from)

        proposes : (o : Option ℕ) → (node_in c trace.steps p round).proposal ≡ o
            → is_some o ≡ true → (v : ℕ) × ((node_in c trace.steps p round).proposal ≡ Some v)
        proposes (Some v) e h = (v, e)
        proposes None e h = absurd (true≢false (sym h))

        told : AreTold p (x + f)
        told q mq may last =
            let parts = and_parts (p == owner c.n (phase_of round)) (is_some (node_in c trace.steps p round).proposal)
            (sym (may-in Acknowledging c trace.steps p round q (part_at-acknowledging round part)) ∙ may) in
            let own : p ≡ owner c.n (phase_of round) = eqb-true p (owner c.n (phase_of round)) parts.0 in
            let v = proposes (node_in c trace.steps p round).proposal refl parts.1 in
            let owes = owe v.0 (subst (λ o. has_proc set o ≡ true) own m)
            (subst (λ o. (node_in c trace.steps o round).proposal ≡ Some v.0) own v.1) q mq (came q mq last) in
            let e = times-more 0 f in
            let s = says 0 p q (with_proper (node_in c trace.steps q round) Ack) mq
            (member-proc c set keeps.within p m) (few-one c trace.steps q round (inr part))
            (subst (λ to. out c (node_in c trace.steps q round) q round to ≡ Some
            (with_proper (node_in c trace.steps q round) Ack)) (sym own)
            (acknowledgement-sent c (node_in c trace.steps q round) q round part owes)) (omega arith) in
            record { message = s.message; sent = s.sent; later = s.later; by = omega (arith, s.by) }

  -- an owner without a proposal waits for nobody, until it sends its locks
  idle-owner : (o : ℕ) → has_proc set o ≡ true → o ≡ owner c.n (phase_of round)
      → part_of round ≡ 2 → (node_in c trace.steps o round).proposal ≡ None → IsInRoundFrom trace o (round + 1 + 1) (x + f + 1 * f + f)
  idle-owner o m own part none = hears-ends trace patience set g f o keeps.run keeps.trace_is.time
      (keeps.paced o m) m keeps.phi (round + 1) (x + f) (let l = touch.since in omega arith) first 1 (x + f + 1 * f)
      (few-one c trace.steps o (round + 1) (inr third)) (omega arith) keeps.within keeps.size (record {
        members = λ q mq may. absurd (true≢false (sym may ∙ deaf_third q));
        others = λ q is mq may. absurd (true≢false (sym may ∙ deaf_third q));
      })
    where
      third : part_of (round + 1) ≡ 3
      third = part-next round 2 low (omega arith) part

      deaf_second : (q : ℕ) → may_hear_of c trace.steps o round q ≡ false
      deaf_second q =
          may-in Locking c trace.steps o round q (part_at-locking round part)
          ∙ ap (λ j. may_hear_in Locking (node_in c trace.steps o round) j o q) (sym own)
          ∙ deaf-locking q o (node_in c trace.steps o round) none

      deaf_third : (q : ℕ) → may_hear_of c trace.steps o (round + 1) q ≡ false
      deaf_third q = may-in Acknowledging c trace.steps o (round + 1) q (part_at-acknowledging (round + 1) third) ∙ deaf-acknowledging o q
          (owner c.n (phase_of (round + 1))) (node_in c trace.steps o (round + 1)) (proposal-kept c trace.steps o round low part ∙ none)

      first : IsInRoundFrom trace o (round + 1) (x + f)
      first = hears-ends trace patience set g f o keeps.run keeps.trace_is.time
          (keeps.paced o m) m keeps.phi round x touch.since (there o m) 0 x
          (few-none c trace.steps o round part own none) (let e : 0 * f ≡ 0 = grind arith in omega arith) keeps.within keeps.size (record {
            members = λ q mq may. absurd (true≢false (sym may ∙ deaf_second q));
            others = λ q is mq may. absurd (true≢false (sym may ∙ deaf_second q));
          })

  -- a locking round: the owner tells its proposal, or is soon in the lock-release round
  pub locking-ends : part_of round ≡ 2 → AreInRoundFrom set trace (round + 1) (x + 3 * f + c.n * f + d + f)
  locking-ends part p m = told-ends p c.n (x + 3 * f + c.n * f) m (few-all c trace.steps p round) (omega arith) told
    where
      low_n : 1 ≤ c.n
      low_n = let is = member-proc c set keeps.within p m in let a = is.0 in let b = is.1 in omega arith

      product : suc (c.n - 1) * f ≡ c.n * f
      product = let l = low_n in let e : suc (c.n - 1) ≡ c.n = omega arith in ap (λ n. n * f) e

      of : (o : ℕ) → has_proc set o ≡ true → o ≡ owner c.n (phase_of round) → x + 3 * f + c.n * f ≤ trace.last
          → (v : Option ℕ) → (node_in c trace.steps o round).proposal ≡ v → IsSentBy trace o p round (x + 3 * f + c.n * f)
      of o mo own last (Some v) e =
          let times = product in
          let l = low_n in
          let few = few-all c trace.steps o round in
          let s = says (c.n - 1) p o (with_proper (node_in c trace.steps o round) (Lock v)) mo
          (member-proc c set keeps.within p m) (omega arith)
          (subst (λ j. out c (node_in c trace.steps o round) j round p ≡ Some
          (with_proper (node_in c trace.steps o round) (Lock v))) (sym own)
          (lock-sent c (node_in c trace.steps o round) round p v part e)) (omega arith) in
          record { message = s.message; sent = s.sent; later = s.later; by = omega (arith, s.by) }
      of o mo own last None e =
          let times = product in
          let l = low_n in
          let few = few-all c trace.steps o (round + 1 + 1) in
          let fourth : part_of (round + 1 + 1) ≡ 4 =
          part-next (round + 1) 3 (omega arith) (omega arith) (part-next round 2 low (omega arith) part) in
          let one = times-more 0 f in
          let since = touch.since in
          let s = sent-by trace patience set g f o keeps.run keeps.trace_is.time
          (keeps.paced o mo) mo keeps.phi (round + 1 + 1) (x + f + 1 * f + f) (omega arith) (idle-owner o mo own part e) (omega arith)
          (c.n - 1) p (with_proper (node_in c trace.steps o (round + 1 + 1)) (Locks (node_in c trace.steps o (round + 1 + 1)).locks))
          (omega arith) (member-proc c set keeps.within p m)
          (locks-sent c (node_in c trace.steps o (round + 1 + 1)) o (round + 1 + 1) p fourth) (omega arith) in
          let by = s.by in
          record { message = s.message; sent = s.sent; later = omega (arith, s.later); by = omega (arith, s.later) }

      told : AreTold p (x + 3 * f + c.n * f)
      told q mq may last =
          let parts = and_parts (q == owner c.n (phase_of round))
          (not (p == owner c.n (phase_of round)) || is_some (node_in c trace.steps p round).proposal)
          (sym (may-in Locking c trace.steps p round q (part_at-locking round part)) ∙ may) in
          of q mq (eqb-true q (owner c.n (phase_of round)) parts.0) last (node_in c trace.steps q round).proposal refl

-- what is in touch stays so
pub touch-later : (patience set : ℕ) (trace : Recorded) (g round x r z : ℕ)
    → round ≤ r → x ≤ z → AreInTouch patience set trace g round x → AreInTouch patience set trace g r z
touch-later patience set trace g round x r z up late touch = record {
  since = let l = touch.since in omega arith;
  fresh = λ p q s mp mq sent later. touch.fresh p q s mp mq sent (omega arith);
  silent = λ p q m is none k receive by. touch.silent p q m is none k receive (omega arith);
}

module _ (patience set : ℕ) (trace : Recorded) (g d f : ℕ) (keeps : KeepsBounds patience set trace g d f) (round x : ℕ)
    (touch : AreInTouch patience set trace g round x) (there : AreInRoundFrom set trace round x) (low : 1 ≤ round) where
  -- the least phase is over after T ticks
  pub phase-ends : part_of round ≡ 1 → OweAcknowledgements set trace (round + 2)
      → AreInRoundFrom set trace (round + 4) (x + (4 * d + (2 * trace.config.n + 9) * f))
  phase-ends part owe p m =
      let e : round + 4 ≡ round + 1 + 1 + 1 + 1 = omega arith in
      let t : x4 + trace.config.n * f + d + f ≡ x + (4 * d + (2 * trace.config.n + 9) * f) = whole in
      subst (λ r. IsInRoundFrom trace p r (x + (4 * d + (2 * trace.config.n + 9) * f))) (sym e)
      (subst (IsInRoundFrom trace p (round + 1 + 1 + 1 + 1)) t (fourth p m))
    where
      x2 : ℕ
      x2 = x + f + d + f

      x3 : ℕ
      x3 = x2 + 3 * f + trace.config.n * f + d + f

      x4 : ℕ
      x4 = x3 + f + d + f

      whole : x4 + trace.config.n * f + d + f ≡ x + (4 * d + (2 * trace.config.n + 9) * f)
      whole = grind arith

      second : AreInRoundFrom set trace (round + 1) x2
      second = listing-ends patience set trace g d f keeps round x touch there low part

      third : AreInRoundFrom set trace (round + 1 + 1) x3
      third = locking-ends patience set trace g d f keeps (round + 1) x2 (touch-later patience set trace g round x
          (round + 1) x2 (omega arith) (omega arith) touch) second (omega arith) (part-next round 1 low (omega arith) part)

      part3 : part_of (round + 1 + 1) ≡ 3
      part3 = part-next (round + 1) 2 (omega arith) (omega arith) (part-next round 1 low (omega arith) part)

      last : AreInRoundFrom set trace (round + 1 + 1 + 1) x4
      last = acknowledging-ends patience set trace g d f keeps (round + 1 + 1) x3
          (touch-later patience set trace g round x (round + 1 + 1) x3 (omega arith) (omega arith) touch) third (omega arith)
          part3 (subst (OweAcknowledgements set trace) (let e : round + 2 ≡ round + 1 + 1 = omega arith in e) owe)

      fourth : AreInRoundFrom set trace (round + 1 + 1 + 1 + 1) (x4 + trace.config.n * f + d + f)
      fourth = releasing-ends patience set trace g d f keeps (round + 1 + 1 + 1) x4 (touch-later patience set trace g round x (round + 1
          + 1 + 1) x4 (omega arith) (omega arith) touch) last (omega arith) (part-next (round + 1 + 1) 3 (omega arith) (omega arith) part3)
