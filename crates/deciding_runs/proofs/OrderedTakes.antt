-- Who takes all that waits takes messages in order.
use Rattle.std.proofs.Common.{ℕ, ◌≡◌, ◌-◌, ◌<◌, ◌≤◌, List, ◌++◌, length, drop, Some, Bool, true, false, refl, sym, ap, subst, ◌∙◌, arith, eq-eqb}
use Rattle.std.specs.Prelude.{Contains}
use Rattle.std.proofs.lemmas.List.{take-append-drop, length-take-le}
use Rattle.step_trace.proofs.StepPrefixes.{step_at-prefix, IsWellFormed-prefix}
use Rattle.deciding_runs.proofs.Common.{Act, Step, Setup, step_at, IsWellFormed, act_ids, step_at_within}
use Rattle.deciding_runs.proofs.Common.{Contains-filter, before, numbers, buffer, waits_for, IsSend}
use Rattle.deciding_runs.proofs.Common.{Contains-numbers, IsTakenAt, IsTakenBefore, TakesInOrder}
use Rattle.deciding_runs.proofs.Common.{TakesAll}
use Rattle.step_trace.specs.declared.steps.Act.TheVariants.{Send, Receive}
use Rattle.step_trace.specs.PushRefusals.{is_taken}
use Rattle.step_buffers.proofs.KeptInboxes.{IsTakenBy-receiver}

-- who takes something makes a Receive
pub taken-at : (steps : List Step) (p k s : ℕ) (x : Step)
    → step_at steps k ≡ Some x → x.proc ≡ p → Contains (act_ids x.act) s → IsTakenAt steps p k s
taken-at steps p k s x stands own taken = go x.act refl taken
  where
    go : (act : Act) → x.act ≡ act → Contains (act_ids act) s → IsTakenAt steps p k s
    go (Send to) e d = absurd (let l = d.1 in omega arith)
    go (Receive ends ids) e d = record {
      ids = ids;
      ends = ends;
      step = stands ∙ ap (λ q. Some (record { proc = q; act = x.act })) own ∙ ap (λ act. Some (record { proc = p; act = act })) e;
      taken = d;
    }

-- the steps before a step, and the rest
whole : (steps : List Step) (k : ℕ) → before steps k ++ drop (k - 1) steps ≡ steps
whole steps k = take-append-drop (k - 1) steps

-- a step before it
step_at-before : (steps : List Step) (k j : ℕ) → j < k → k ≤ length steps → step_at (before steps k) j ≡ step_at steps j
step_at-before steps k j l high =
    let long : length (before steps k) ≡ k - 1 = length-take-le (k - 1) steps (omega arith) in
    sym (step_at-prefix (before steps k) (drop (k - 1) steps) j (omega arith)) ∙ ap (λ xs. step_at xs j) (whole steps k)

-- Who takes all that waits takes what one processor sends to it in order.
pub TakesInOrder-all : (c : Setup) (steps : List Step) (p q : ℕ) → IsWellFormed c steps → TakesAll steps p → TakesInOrder steps p q
TakesInOrder-all c steps p q w all s later k sent after l at = go (is_taken (before steps k) s) refl
  where
    within : (0 < k) × (k ≤ length steps)
    within = step_at_within steps k (record { proc = p; act = Receive at.ends at.ids }) at.step

    earlier : later < k
    earlier = (w.earlier k later (record { proc = p; act = Receive at.ends at.ids }) at.step at.taken).0

    low : 0 < s
    low = (step_at_within steps s _ sent).0

    sent_before : IsSend (before steps k) q p s
    sent_before = step_at-before steps k s (let e = earlier in omega arith) within.1 ∙ sent

    well_formed : IsWellFormed c (before steps k)
    well_formed = IsWellFormed-prefix c (before steps k) (drop (k - 1) steps) (subst (IsWellFormed c) (sym (whole steps k)) w)

    long : length (before steps k) ≡ k - 1
    long = let high = within.1 in length-take-le (k - 1) steps (omega arith)

    go : (b : Bool) → is_taken (before steps k) s ≡ b → IsTakenBefore steps p k s
    go true e =
        let was = IsTakenBy-receiver c (before steps k) q p s well_formed sent_before e in
        let inside = step_at_within (before steps k) was.place was.step was.stands in
        let high = inside.1 in
        let size = long in
        let first = within.0 in
        let stands : step_at steps was.place ≡ Some was.step = sym (step_at-before steps k was.place (omega arith) within.1) ∙ was.stands in
        record { place = was.place; take = taken-at steps p was.place s was.step stands was.taker was.taken; by = omega arith }
    go false e =
        let size = long in
        let first = earlier in
        let positive = low in
        let waits : waits_for (before steps k) p s ≡ true = rw (sent_before, e, eq-eqb p p refl) refl in
        let is : Contains (buffer (before steps k) p) s = Contains-filter (λ i. waits_for (before steps k) p i)
        (numbers (before steps k)) s (Contains-numbers (before steps k) s (omega arith) (omega arith)) waits in
        record {
          place = k;
          take = record {
            ids = at.ids;
            ends = at.ends;
            step = at.step;
            taken = subst (λ xs. Contains xs s) (sym (all k at.ids at.ends at.step)) is;
          };
          by = omega arith;
        }
