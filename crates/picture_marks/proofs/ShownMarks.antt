-- Which steps and messages a picture shows.
use Rattle.std.proofs.Common.{ℕ, ◌≡◌, ◌≤◌, ◌&&◌, ◌==◌, Bool, true, false, inl, inr, List, [], length, Option, Some, None, if◌then◌else◌, refl, zero, suc, arith, sym, ap, subst}
use Rattle.std.specs.Prelude.{Contains, ◌↔◌}
use Rattle.std.specs.List.{list_any}
use Rattle.std.specs.Option.{option_map_or}
use Rattle.std.proofs.lemmas.Bool.{leb-true, le-leb, cases_lt, and_parts, and_from}
use Rattle.std.proofs.lemmas.Option.{same_Some, none-some}
use Rattle.step_trace.specs.declared.steps.Act.{Act}
use Rattle.step_trace.specs.declared.steps.Act.TheVariants.{Send, Receive}
use Rattle.step_trace.specs.declared.steps.Step.{Step}
use Rattle.step_trace.specs.Steps.{act_ids}
use Rattle.step_trace.specs.Configurations.{Setup}
use Rattle.step_trace.specs.Traces.{Recorded, step_at, TakesAt, IsSentTo, IsWellFormed}
use Rattle.step_trace.specs.Ticks.{tick_of}
use Rattle.step_trace.proofs.StepPositions.{Contains-from_takes, act_takes-from_Contains, step_at_within}
use Rattle.picture_marks.specs.declared.windows.Window.{Window}
use Rattle.picture_marks.specs.declared.messages.Message.{Message}
use Rattle.step_trace.specs.Processors.{has_proc}
use Rattle.picture_marks.specs.Windows.{touches}
use Rattle.picture_marks.specs.Gathered.{gathered}
use Rattle.picture_marks.specs.Messages.{takes_at, taker, message_of, end_of, proc_of, sends_to_lane, sends_between}
use Rattle.picture_marks.specs.Pictures.{shown_step, shown_message}
use Rattle.picture_marks.specs.Marks.{Touches, IsShownStep, IsTakenBy, IsShownMessage}
use Rattle.picture_marks.proofs.GatheredLists.{gathered_has, gathered_from}

if_some : {X : Type 0} (t : Bool) (x y : X) → (if t then Some x else None) ≡ Some y → (t ≡ true) × (x ≡ y)
if_some true x y h = (refl, same_Some x y h)
if_some false x y h = absurd (none-some y h)

pub touches_so : (w : Window) (a b : ℕ) → touches w a b ≡ true → Touches w a b
touches_so w a b h = let t = and_parts _ _ h in record { begins = leb-true a w.to t.0; ends = leb-true w.first b t.1 }

pub touches_test : (w : Window) (a b : ℕ) → Touches w a b → touches w a b ≡ true
touches_test w a b t = and_from _ _ (le-leb a w.to t.begins) (le-leb w.first b t.ends)

-- the test of a step
abbrev step_test : Recorded → Window → ℕ → ℕ → Bool
step_test trace w lanes s = touches w (tick_of trace s) (tick_of trace s) && has_proc lanes (proc_of trace.steps s)

pub steps_exact : (trace : Recorded) (w : Window) (lanes : ℕ) (s : ℕ)
    → Contains (gathered (shown_step trace w lanes) (length trace.steps)) s ↔ IsShownStep trace w lanes s
steps_exact trace w lanes s = (
  (λ h. let y = gathered_from (shown_step trace w lanes) (length trace.steps) s h in go y.0 y.1 y.2 y.3),
  (λ (g : IsShownStep trace w lanes s).
      let test : step_test trace w lanes s ≡ true = and_from _ _ (touches_test w (tick_of trace s) (tick_of trace s) g.inside) g.lane in
      gathered_has (shown_step trace w lanes) (length trace.steps) s s g.low g.high (rw test refl)),
)
  where
    go : (k : ℕ) → 1 ≤ k → k ≤ length trace.steps → shown_step trace w lanes k ≡ Some s → IsShownStep trace w lanes s
    go k low high e =
        let f = if_some (step_test trace w lanes k) k s e in
        let t = and_parts (touches w (tick_of trace k) (tick_of trace k)) (has_proc lanes (proc_of trace.steps k)) f.0 in
        rw (← f.1) (record { low = low; high = high; inside = touches_so w (tick_of trace k) (tick_of trace k) t.0; lane = t.1 })

-- a test of a step that passes has a step
at_some : (o : Option Step) (s : ℕ) → list_any (λ i. i == s) (option_map_or (λ x. act_ids x.act) o []) ≡ true
    → (x : Step) × (o ≡ Some x) × Contains (act_ids x.act) s
at_some None s h = cc
at_some (Some x) s h = (x, refl, Contains-from_takes x.act s h)

takes_so : (steps : List Step) (k s : ℕ) → takes_at steps k s ≡ true → TakesAt steps k s
takes_so steps k s h = let y = at_some (step_at steps k) s h in (y.0, y.1, y.2)

takes_test : (steps : List Step) (k s : ℕ) → TakesAt steps k s → takes_at steps k s ≡ true
takes_test steps k s t = rw t.1 (act_takes-from_Contains t.0.act s t.2)

taker_so : (steps : List Step) (n s r : ℕ) → taker steps n s ≡ Some r → TakesAt steps r s
taker_so steps zero s r h = absurd (none-some r h)
taker_so steps (suc n) s r h = go (takes_at steps (suc n) s) refl h (λ e. taker_so steps n s r e)
  where
    go : (t : Bool) → takes_at steps (suc n) s ≡ t
        → (if t then Some (suc n) else taker steps n s) ≡ Some r → (taker steps n s ≡ Some r → TakesAt steps r s) → TakesAt steps r s
    go true e h before = rw (← same_Some (suc n) r h) (takes_so steps (suc n) s e)
    go false e h before = before h

taker_none : (steps : List Step) (n s : ℕ) → taker steps n s ≡ None → (r : ℕ) → r ≤ n → TakesAt steps r s → ⊥
taker_none steps zero s h zero l t = none-some t.0 t.1
taker_none steps zero s h (suc r) l t = omega arith
taker_none steps (suc n) s h r l t = go (takes_at steps (suc n) s) refl h (λ e k. taker_none steps n s e r k t)
  where
    go : (test : Bool) → takes_at steps (suc n) s ≡ test
        → (if test then Some (suc n) else taker steps n s) ≡ None → (taker steps n s ≡ None → r ≤ n → ⊥) → ⊥
    go true e h before = none-some (suc n) (sym h)
    go false e h before =
        elim (cases_lt n r) [
          | inl m ↦ let same : r ≡ suc n = omega arith in let yes = rw same at (takes_test steps r s t) in cc
          | inr m ↦ before h m
        ]

taken_by : (steps : List Step) (s : ℕ) → IsTakenBy steps s (taker steps (length steps) s)
taken_by steps s = go (taker steps (length steps) s) refl
  where
    go : (o : Option ℕ) → taker steps (length steps) s ≡ o → IsTakenBy steps s o
    go None e = λ r t. taker_none steps (length steps) s e r (step_at_within steps r t.0 t.1).1 t
    go (Some r) e = taker_so steps (length steps) s r e

-- in a well-formed trace there is one answer
taker_is : (c : Setup) (steps : List Step) (s : ℕ) (o : Option ℕ)
    → IsWellFormed c steps → IsTakenBy steps s o → taker steps (length steps) s ≡ o
taker_is c steps s o w g = go (taker steps (length steps) s) o (taken_by steps s) g
  where
    go : (a b : Option ℕ) → IsTakenBy steps s a → IsTakenBy steps s b → a ≡ b
    go None None f g = refl
    go None (Some r) f g = absurd (f r g)
    go (Some k) None f g = absurd (g k f)
    go (Some k) (Some r) f g = ap (λ x. Some x) (w.once k r s f g)

-- a Send from a lane to a lane
record SendsBetween (lanes : ℕ) (o : Option Step) : Type 0 where
  pub to : ℕ
  pub proc : ℕ
  pub step : o ≡ Some (record { proc = proc; act = Send to })
  pub begins : has_proc lanes proc ≡ true
  pub ends : has_proc lanes to ≡ true

act_so : (lanes : ℕ) (a : Act) → sends_to_lane lanes a ≡ true → (to : ℕ) × (a ≡ Send to) × (has_proc lanes to ≡ true)
act_so lanes (Send to) h = (to, refl, h)
act_so lanes (Receive ends ids) h = cc

sends_so : (lanes : ℕ) (o : Option Step) → option_map_or (λ x. sends_to_lane lanes x.act && has_proc lanes x.proc) o false ≡ true
    → SendsBetween lanes o
sends_so lanes None h = cc
sends_so lanes (Some x) h =
    let t = and_parts (sends_to_lane lanes x.act) (has_proc lanes x.proc) h in
    let y = act_so lanes x.act t.0 in
    record { to = y.0; proc = x.proc; step = ap (λ (a : Act). Some (record { proc = x.proc; act = a })) y.1; begins = t.1; ends = y.2 }

sends_test : (lanes : ℕ) (steps : List Step) (s to : ℕ)
    → IsSentTo steps s to → has_proc lanes (proc_of steps s) ≡ true → has_proc lanes to ≡ true → sends_between lanes steps s ≡ true
sends_test lanes steps s to h begins ends =
    let from : has_proc lanes h.0 ≡ true = rw h.1 at begins in
    rw h.1 (and_from (has_proc lanes to) (has_proc lanes h.0) ends from)

shown_so : (trace : Recorded) (w : Window) (lanes : ℕ) (m : Message)
    → sends_between lanes trace.steps m.sent ≡ true → taker trace.steps (length trace.steps) m.sent ≡ m.taken
    → touches w (tick_of trace m.sent) (end_of trace m) ≡ true → shown_message trace w lanes m.sent ≡ Some m
shown_so trace w lanes m p e q =
    let test : (sends_between lanes trace.steps m.sent && touches w (tick_of trace m.sent) (end_of trace m)) ≡ true = and_from _ _ p q in
    rw (e, test) refl

is_shown : (trace : Recorded) (w : Window) (lanes : ℕ) (s : ℕ) → sends_between lanes trace.steps s ≡ true
    → touches w (tick_of trace s) (end_of trace (message_of trace.steps s)) ≡ true → IsShownMessage trace w lanes (message_of trace.steps s)
is_shown trace w lanes s p q =
    let y = sends_so lanes (step_at trace.steps s) p in
    record {
      to = y.to;
      sent = (y.proc, y.step);
      taken = taken_by trace.steps s;
      inside = touches_so w (tick_of trace s) (end_of trace (message_of trace.steps s)) q;
      begins = rw y.step y.begins;
      ends = y.ends;
    }

pub messages_exact : (trace : Recorded) (w : Window) (lanes : ℕ) (m : Message) → IsWellFormed trace.config trace.steps
    → Contains (gathered (shown_message trace w lanes) (length trace.steps)) m ↔ IsShownMessage trace w lanes m
messages_exact trace w lanes m is = (
  (λ h. let y = gathered_from (shown_message trace w lanes) (length trace.steps) m h in from_number y.0 y.3),
  (λ (g : IsShownMessage trace w lanes m).
      let within = step_at_within trace.steps m.sent _ g.sent.1 in
      let low : 1 ≤ m.sent = omega arith in
      gathered_has (shown_message trace w lanes) (length trace.steps) m.sent m low within.1
      (shown_so trace w lanes m (sends_test lanes trace.steps m.sent g.to g.sent g.begins g.ends)
      (taker_is trace.config trace.steps m.sent m.taken is g.taken)
      (touches_test w (tick_of trace m.sent) (end_of trace m) g.inside))),
)
  where
    from_number : (k : ℕ) → shown_message trace w lanes k ≡ Some m → IsShownMessage trace w lanes m
    from_number k e =
        let f = if_some (sends_between lanes trace.steps k && touches w (tick_of trace k) (end_of trace (message_of trace.steps k)))
        (message_of trace.steps k) m e in
        let t = and_parts _ _ f.0 in
        let P : Message → Type 0 = λ x. IsShownMessage trace w lanes x in
        subst P f.1 (is_shown trace w lanes k t.0 t.1)
