-- What is kept of the processors: before the first step, copied, and as the trace grows by a step.
use Rattle.std.proofs.Common.{None, ℕ, zero, suc, ◌≡◌, ◌⊎◌, inl, inr, List, [], ◌∷◌, ◌++◌, length, Some, refl, sym, ap}
use Rattle.std.proofs.Common.{◌∙◌, subst, arith, ◌≢◌, ◌+◌, ◌-◌, ◌≤◌, get_or, Option, Bool, true, false, ◌==◌, ◌&&◌}
use Rattle.std.specs.Prelude.{slice_get, slice_set}
use Rattle.std.proofs.lemmas.Option.{same_Some, none-some, slice_get_read}
use Rattle.step_trace.proofs.StepPrefixes.{IsWellFormed-prefix}
use Rattle.step_buffers.proofs.Common.{Send, Step, Setup, IsProc, step_at, Recorded, IsWellFormed, step_at_within}
use Rattle.step_buffers.proofs.Common.{slice_get-push_cases, opening, State, initial_value, state_after-opening}
use Rattle.step_buffers.proofs.Common.{node_at, IsRun, IsProcessor, AreProcessors, AreLetters, Serves, IsInbox}
use Rattle.step_buffers.proofs.Common.{IsPlaceOf, IsStanding, AreEach, IsPacedRun, IsWorld, IsMoved, act_sends, Letter}
use Rattle.step_buffers.proofs.Common.{buffer, next_send, sending, receiving, IsGrown}
use Rattle.step_buffers.specs.declared.processors.Processor.{Processor}
use Rattle.step_buffers.specs.HeardTables.{heard_table, act_ends, passed}
use Rattle.step_buffers.proofs.DecidedRounds.{IsDecidedSince-opening, IsDecidedSince-stays, IsDecidedSince-ended}
use Rattle.step_buffers.proofs.KeptInboxes.{IsInbox-opening, IsInbox-moved, IsInbox-stays}
use Rattle.step_buffers.proofs.NextSends.{next_send-opening, IsProc-next_send, next_send-ended, next_send-stays, next_send-sent}
use Rattle.std.proofs.Math.Bool.{and-false}
use Rattle.std.proofs.lemmas.Bool.{ne_eqb}
use Rattle.std.proofs.lemmas.List.{length-set}
use Rattle.step_buffers.specs.Queues.{Queue}
use Rattle.step_buffers.proofs.GrownNodes.{passed-ends, passed-stays, node_at-stays}
use Rattle.step_buffers.proofs.BufferSteps.{buffer-sent_to, buffer-sent_elsewhere, buffer-received_elsewhere}

-- what is kept of a processor before the first step
pub record IsOpening (c : Setup) (p : ℕ) (x : Processor) : Type 0 where
  pub round : x.round ≡ 1
  pub last : x.last ≡ 0
  pub node : x.node ≡ opening (initial_value c p)
  pub since : x.since ≡ 1
  pub buffer : x.buffer.items ≡ []
  pub near : x.inbox.near ≡ []
  pub later : x.inbox.later ≡ []
  pub said : x.said ≡ None

IsProcessor-opening : (c : Setup) (p : ℕ) (x : Processor) → IsOpening c p x → IsProcessor c [] p x
IsProcessor-opening c p x is = record {
  stands = record {
    round = is.round;
    node = node;
    decided = rw is.since (IsDecidedSince-opening c p x.node node);
    last = (let l = is.last in omega arith);
    next = next_send-opening c p ∙ rw (node, is.round, is.last) refl;
    said = rw is.said tt;
  };
  buffer = is.buffer;
  inbox = rw (is.near, is.later) (IsInbox-opening p x.round);
}
  where
    node : x.node ≡ node_at c [] p
    node = is.node ∙ sym (state_after-opening c (heard_table []) p)

-- one more of them
abbrev pub AreOpening : Setup → List Processor → Type 0
AreOpening c kept = (k : ℕ) (x : Processor) → slice_get kept k ≡ Some x → IsOpening c (suc k) x

pub AreOpening-push : (c : Setup) (kept : List Processor) (y : Processor)
    → AreOpening c kept → IsOpening c (suc (length kept)) y → AreOpening c (kept ++ y ∷ [])
AreOpening-push c kept y are is k x h = elim (slice_get-push_cases kept y x k h) [
  | inl e ↦ are k x e
  | inr e ↦ subst (λ n. IsOpening c (suc n) x) (sym e.0) (subst (IsOpening c (suc (length kept))) e.1 is)
]

pub AreProcessors-opening : (c : Setup) (kept : List Processor) → length kept ≡ c.n → AreOpening c kept → AreProcessors c [] kept
AreProcessors-opening c kept count are = record {
  count = count;
  each = λ k x h. IsProcessor-opening c (suc k) x (are k x h);
}

-- the empty trace is a run
pub IsRun-opening : (c : Setup) → IsRun c []
IsRun-opening c = record {
  well_formed = record {
    short = omega arith;
    procs = λ k x h. absurd (none k x h);
    dests = λ k x h. absurd (none k x h);
    rising = λ k x h. absurd (none k x h);
    earlier = λ k s x h t. absurd (none k x h);
    once = λ m n s a b. absurd (none m a.0 a.1);
  };
  each = λ k x h. absurd (none k x h);
}
  where
    none : (k : ℕ) (x : Step) → step_at [] k ≡ Some x → ⊥
    none k x h = let b = step_at_within [] k x h in let low = b.0 in let high = b.1 in omega arith

pub AreLetters-opening : (c : Setup) → AreLetters c [] []
AreLetters-opening c = record {
  places = refl;
  messages = λ q to s h. absurd (let b = step_at_within [] s (record { proc = q; act = Send to }) h in
      let low = b.0 in let high = b.1 in omega arith);
}

-- the same is kept of both
pub record IsAlike (x y : Processor) : Type 0 where
  pub round : y.round ≡ x.round
  pub last : y.last ≡ x.last
  pub node : y.node ≡ x.node
  pub since : y.since ≡ x.since
  pub buffer : y.buffer.items ≡ x.buffer.items
  pub inbox : IsMoved x.inbox y.inbox.near y.inbox.later
  pub said : y.said ≡ x.said

pub IsProcessor-alike : (c : Setup) (steps : List Step) (p : ℕ) (x y : Processor)
    → IsAlike x y → IsProcessor c steps p x → IsProcessor c steps p y
IsProcessor-alike c steps p x y like is = record {
  stands = rw (like.round, like.last, like.node, like.since, like.said) is.stands;
  buffer = like.buffer ∙ is.buffer;
  inbox = rw like.round (IsInbox-moved steps p x.round x.inbox _ _ like.inbox is.inbox);
}

-- each of the copies replaces the one that it is a copy of
abbrev pub AreCopied : List Processor → List Processor → Type 0
AreCopied kept copies = (k : ℕ) (y : Processor) → slice_get copies k ≡ Some y → (x : Processor) × (slice_get kept k ≡ Some x) × Serves x y

pub AreCopied-push : (kept copies : List Processor) (x y : Processor)
    → AreCopied kept copies → slice_get kept (length copies) ≡ Some x → Serves x y → AreCopied kept (copies ++ y ∷ [])
AreCopied-push kept copies x y are at serves k z h = elim (slice_get-push_cases copies y z k h) [
  | inl e ↦ are k z e
  | inr e ↦ (x, ap (slice_get kept) e.0 ∙ at, subst (Serves x) e.1 serves)
]

pub AreProcessors-copied : (c : Setup) (steps : List Step) (kept copies : List Processor)
    → length copies ≡ length kept → AreCopied kept copies → AreProcessors c steps kept → AreProcessors c steps copies
AreProcessors-copied c steps kept copies count are is = record {
  count = count ∙ is.count;
  each = λ k y h. (let m = are k y h in m.2 c steps (suc k) (is.each k m.0 m.1));
}

-- where p is after a step that is no Send of p and doesn't end its round
pub IsStanding-stays : (c : Setup) (steps : List Step) (x : Step) (p r : ℕ) (state : State) (since to : ℕ) (letter : Option Letter)
    → IsWellFormed c steps → (x.proc == p && act_ends x.act) ≡ false → (x.proc == p && act_sends x.act) ≡ false
    → IsStanding c steps p r state since to letter → IsStanding c (steps ++ x ∷ []) p r state since to letter
IsStanding-stays c steps x p r state since to letter w quiet silent is = record {
  round = is.round ∙ ap (λ n. n + 1) (sym (passed-stays steps x p quiet));
  node = is.node ∙ sym (node_at-stays c steps x p w quiet);
  decided = IsDecidedSince-stays c steps x p state.decision since w quiet is.decided;
  last = is.last;
  next = next_send-stays c steps x p w quiet silent ∙ is.next;
  said = is.said;
}

-- after a Send of p
IsStanding-sent : (c : Setup) (steps : List Step) (p r : ℕ) (state : State) (since last to : ℕ) (letter said : Option Letter)
    → IsWellFormed c steps → next_send c steps p ≡ Some to → IsPlaceOf c p (node_at c steps p) (passed steps p + 1) to said
    → IsStanding c steps p r state since last letter → IsStanding c (steps ++ sending p to ∷ []) p r state since to said
IsStanding-sent c steps p r state since last to letter said w due place is = record {
  round = is.round ∙ ap (λ n. n + 1) (sym (passed-stays steps (sending p to) p quiet));
  node = is.node ∙ sym (node_at-stays c steps (sending p to) p w quiet);
  decided = IsDecidedSince-stays c steps (sending p to) p state.decision since w quiet is.decided;
  last = (IsProc-next_send c steps p to due).1;
  next = next_send-sent c steps p to w due ∙ rw (is.node, is.round) refl;
  said = rw (place.1, is.node, is.round) (to, place.2);
}
  where
    quiet : (p == p && false) ≡ false
    quiet = and-false (p == p)

-- after the end of its round, with this node
pub IsStanding-turned : (c : Setup) (steps : List Step) (x : Step) (r : ℕ) (state new : State) (since next to : ℕ) (letter : Option Letter)
    → IsWellFormed c steps → act_ends x.act ≡ true → new ≡ node_at c (steps ++ x ∷ []) x.proc
    → (new.decision ≡ state.decision → next ≡ since) → (new.decision ≢ state.decision → next ≡ r + 1)
    → IsStanding c steps x.proc r state since to letter → IsStanding c (steps ++ x ∷ []) x.proc (r + 1) new next 0 None
IsStanding-turned c steps x r state new since next to letter w ends node same other is =
    let more = passed-ends steps x ends in
    let before = is.round in
    let now : r + 1 ≡ passed (steps ++ x ∷ []) x.proc + 1 = omega arith in
    record {
      round = now;
      node = node;
      decided = IsDecidedSince-ended c steps x state.decision new.decision since next w ends is.decided
          (ap (λ (s : State). s.decision) is.node)
          (ap (λ (s : State). s.decision) node) same (λ off. other off ∙ (let e : r + 1 ≡ passed steps x.proc + 2 = omega arith in e));
      last = omega arith;
      next = next_send-ended steps x c ends ∙ rw (node, now) refl;
      said = tt;
    }

-- a step of another processor, which leaves the buffer
IsProcessor-other : (c : Setup) (steps : List Step) (x : Step) (q : ℕ) (z : Processor) → IsWellFormed c (steps ++ x ∷ []) → x.proc ≢ q
    → buffer (steps ++ x ∷ []) q ≡ buffer steps q → IsProcessor c steps q z → IsProcessor c (steps ++ x ∷ []) q z
IsProcessor-other c steps x q z w other waits is = record {
  stands = IsStanding-stays c steps x q z.round z.node z.since z.last z.said
      (IsWellFormed-prefix c steps (x ∷ []) w) (none (act_ends x.act)) (none (act_sends x.act)) is.stands;
  buffer = is.buffer ∙ sym waits;
  inbox = IsInbox-stays c steps x q z.round _ _ w (λ e. absurd (other e)) is.inbox;
}
  where
    none : (b : Bool) → (x.proc == q && b) ≡ false
    none b = rw (ne_eqb x.proc q other) refl

-- an element of a list with another one in one place
slice_get-set_cases : {X : Type 0} (xs : List X) (i : ℕ) (x y : X) (k : ℕ) → slice_get (slice_set xs i x) k ≡ Some y
    → ((k ≡ i) × (x ≡ y)) ⊎ ((k ≢ i) × (slice_get xs k ≡ Some y))
slice_get-set_cases [] i x y k h = absurd (none-some y h)
slice_get-set_cases (z ∷ xs) zero x y zero h = inl (refl, same_Some x y h)
slice_get-set_cases (z ∷ xs) zero x y (suc k) h = inr (λ e. omega arith, h)
slice_get-set_cases (z ∷ xs) (suc i) x y zero h = inr (λ e. omega arith, h)
slice_get-set_cases (z ∷ xs) (suc i) x y (suc k) h = elim (slice_get-set_cases xs i x y k h) [
  | inl e ↦ inl (ap suc e.0, e.1)
  | inr e ↦ inr (λ f. e.0 (let g : suc k ≡ suc i = f in omega arith), e.1)
]

-- another record in the place of p, and what that means for the others
AreEach-set : (P Q : ℕ → Processor → Type 0) (kept : List Processor) (p : ℕ) (y : Processor)
    → 1 ≤ p → Q p y → ((q : ℕ) (z : Processor) → p ≢ q → P q z → Q q z) → AreEach P kept → AreEach Q (slice_set kept (p - 1) y)
AreEach-set P Q kept p y low new old are k z h = elim (slice_get-set_cases kept (p - 1) y z k h) [
  | inl e ↦ let place : p ≡ suc k = let f = e.0 in omega arith in subst (λ q. Q q z) place (subst (Q p) e.1 new)
  | inr e ↦ old (suc k) z (λ f. e.0 (let g : p ≡ suc k = f in omega arith)) (are k z e.1)
]

AreEach-at : (P : ℕ → Processor → Type 0) (kept : List Processor) (p : ℕ) (z : Processor)
    → 1 ≤ p → slice_get kept (p - 1) ≡ Some z → AreEach P kept → P p z
AreEach-at P kept p z low at are = let place : suc (p - 1) ≡ p = omega arith in subst (λ n. P n z) place (are (p - 1) z at)

-- what is kept of a processor is in its place
pub IsProcessor-at : (c : Setup) (steps : List Step) (kept : List Processor) (p : ℕ) (z : Processor)
    → AreProcessors c steps kept → IsProc c p → z ≡ get_or kept (p - 1) z → IsProcessor c steps p z
IsProcessor-at c steps kept p z are is at =
    let low = is.0 in
    let high = is.1 in
    let count = are.count in
    AreEach-at (IsProcessor c steps) kept p z low (slice_get_read kept (length kept) (p - 1) z refl (omega arith) at) are.each

-- another record in the place of p, if no step was made
AreProcessors-set : (c : Setup) (steps : List Step) (kept : List Processor) (p : ℕ) (y : Processor)
    → 1 ≤ p → AreProcessors c steps kept → IsProcessor c steps p y → AreProcessors c steps (slice_set kept (p - 1) y)
AreProcessors-set c steps kept p y low are is = record {
  count = length-set kept (p - 1) y ∙ are.count;
  each = AreEach-set (IsProcessor c steps) (IsProcessor c steps) kept p y low is (λ q z other before. before) are.each;
}

-- more room in a buffer
pub AreProcessors-room : (c : Setup) (steps : List Step) (kept : List Processor) (p : ℕ) (z : Processor) (room : Queue)
    → 1 ≤ p → AreProcessors c steps kept → slice_get kept (p - 1) ≡ Some z
    → room.items ≡ z.buffer.items → AreProcessors c steps (slice_set kept (p - 1) (record z { buffer = room }))
AreProcessors-room c steps kept p z room low are at same =
    let is = AreEach-at (IsProcessor c steps) kept p z low at are.each in
    AreProcessors-set c steps kept p (record z { buffer = room }) low are
    (record { stands = is.stands; buffer = same ∙ is.buffer; inbox = is.inbox })

-- what is kept of a processor q once a Send of p is in the buffers; its round and node are unchanged
record IsPosted (c : Setup) (steps : List Step) (p to q : ℕ) (x : Processor) : Type 0 where
  pub stands : IsStanding c steps q x.round x.node x.since x.last x.said
  pub buffer : x.buffer.items ≡ buffer (steps ++ sending p to ∷ []) q
  pub inbox : IsInbox (steps ++ sending p to ∷ []) q x.round x.inbox.near x.inbox.later

-- the processors after a Send: the message is in the receiver's buffer, and its sender knows where it sent last
pub AreProcessors-sent : (c : Setup) (steps : List Step) (p to : ℕ) (kept : List Processor) (receiver sender : Processor) (waiting : Queue)
    (said : Option Letter) → IsWellFormed c (steps ++ sending p to ∷ []) → IsProc c p → next_send c steps p ≡ Some to → AreProcessors
    c steps kept → slice_get kept (to - 1) ≡ Some receiver → waiting.items ≡ receiver.buffer.items ++ suc (length steps) ∷ []
    → slice_get (slice_set kept (to - 1) (record receiver { buffer = waiting })) (p - 1) ≡ Some sender
    → IsPlaceOf c p (node_at c steps p) (passed steps p + 1) to said → AreProcessors c (steps ++ sending p to ∷ [])
    (slice_set (slice_set kept (to - 1) (record receiver { buffer = waiting })) (p - 1) (record sender { last = to; said = said }))
AreProcessors-sent c steps p to kept receiver sender waiting said w is due are at_to items at_p place = record {
  count = length-set posted (p - 1) (record sender { last = to; said = said })
      ∙ length-set kept (to - 1) (record receiver { buffer = waiting }) ∙ are.count;
  each = AreEach-set Posted (IsProcessor c (steps ++ sending p to ∷ [])) posted p (record sender { last = to; said = said }) is.0
      (let z = AreEach-at Posted posted p sender is.0 at_p each_posted in
      record {
        stands = IsStanding-sent c steps p sender.round
            sender.node sender.since sender.last to sender.said said old due place z.stands;
        buffer = z.buffer;
        inbox = z.inbox;
      })
      (λ q z other at. record {
        stands = IsStanding-stays c steps (sending p to) q z.round z.node z.since z.last z.said old
            (and-false (p == q)) (rw (ne_eqb p q other) refl) at.stands;
        buffer = at.buffer;
        inbox = at.inbox;
      })
      each_posted;
}
  where
    Posted : ℕ → Processor → Type 0
    Posted = IsPosted c steps p to

    posted : List Processor
    posted = slice_set kept (to - 1) (record receiver { buffer = waiting })

    old : IsWellFormed c steps
    old = IsWellFormed-prefix c steps (sending p to ∷ []) w

    dest : IsProc c to
    dest = IsProc-next_send c steps p to due

    stays : (q : ℕ) (z : Processor) → IsProcessor c steps q z → IsInbox (steps ++ sending p to ∷ []) q z.round z.inbox.near z.inbox.later
    stays q z before = IsInbox-stays c steps (sending p to) q z.round _ _ w (λ e. refl) before.inbox

    each_posted : AreEach Posted posted
    each_posted = AreEach-set (IsProcessor c steps) Posted kept to (record receiver { buffer = waiting }) dest.0
        (let before = AreEach-at (IsProcessor c steps) kept to receiver dest.0 at_to are.each in record {
          stands = before.stands;
          buffer = items ∙ ap (λ ids. ids ++ suc (length steps) ∷ []) before.buffer ∙ sym (buffer-sent_to c steps p to old);
          inbox = stays to receiver before;
        })
        (λ q z other before. record {
          stands = before.stands;
          buffer = before.buffer
              ∙ sym (buffer-sent_elsewhere c steps p to q old other);
          inbox = stays q z before;
        })
        are.each

-- the processors after a Receive of p, by what is kept of p then
AreProcessors-received : (c : Setup) (steps : List Step) (p : ℕ) (ends : Bool) (ids : List ℕ) (kept : List Processor) (y : Processor)
    → IsWellFormed c (steps ++ receiving p ends ids ∷ []) → IsProc c p → AreProcessors c steps kept → IsProcessor c
    (steps ++ receiving p ends ids ∷ []) p y → AreProcessors c (steps ++ receiving p ends ids ∷ []) (slice_set kept (p - 1) y)
AreProcessors-received c steps p ends ids kept y w proc are is = record {
  count = length-set kept (p - 1) y ∙ are.count;
  each = AreEach-set (IsProcessor c steps) (IsProcessor c (steps ++ receiving p ends ids ∷ [])) kept p y proc.0 is
      (λ q z other before. IsProcessor-other c steps
      (receiving p ends ids) q z w other (buffer-received_elsewhere c steps p q ends ids w other) before) are.each;
}

-- the World after a Receive of p
pub IsWorld-received : (old new : Recorded) (letters sent : List (Option Letter)) (kept : List Processor) (p : ℕ) (ends : Bool) (ids : List
    ℕ) (y : Processor) → IsWorld old letters kept → IsProc old.config p → IsGrown old new (receiving p ends ids) → IsPacedRun new
    → AreLetters new.config new.steps sent → IsProcessor new.config new.steps p y → IsWorld new sent (slice_set kept (p - 1) y)
IsWorld-received old new letters sent kept p ends ids y world proc grown paced are is = record {
  setup = rw grown.config world.setup;
  paced = paced;
  letters = are;
  processors = rw (grown.config, grown.steps) (AreProcessors-received old.config old.steps p ends ids kept y
      (rw (← grown.config, ← grown.steps) paced.run.well_formed) proc world.processors (rw (← grown.config, ← grown.steps) is));
}

-- the World with another record of p, if no step was made
pub IsWorld-kept : (old new : Recorded) (letters sent : List (Option Letter)) (kept : List Processor) (p : ℕ) (y : Processor)
    → IsWorld old letters kept → IsProc old.config p
    → new ≡ old → AreLetters new.config new.steps sent → IsProcessor new.config new.steps p y → IsWorld new sent (slice_set kept (p - 1) y)
IsWorld-kept old new letters sent kept p y world proc same are is = rw same (record {
  setup = world.setup;
  paced = world.paced;
  letters = rw (← same) are;
  processors = AreProcessors-set old.config old.steps kept p y proc.0 world.processors (rw (← same) is);
})
