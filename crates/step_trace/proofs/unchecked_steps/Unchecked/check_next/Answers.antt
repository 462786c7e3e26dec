use Rattle.std.proofs.Common.{◌≡◌, ◌+◌, ◌∙◌, List, length, take, ap, sym, subst, drop, Some, refl, arith}
use Rattle.std.proofs.lemmas.List.{length-take-le}
use Rattle.step_trace.specs.declared.steps.Step.{Step}
use Rattle.step_trace.specs.Traces.{Recorded, step_at}
use Rattle.step_trace.specs.Ticks.{tick_at, IsTrace}
use Rattle.step_trace.specs.TickRefusals.{refusal_in}
use Rattle.step_trace.specs.DeliveryIndex.{IsIndex}
use Rattle.step_trace.specs.AppendedSteps.{IsReached}
use Rattle.step_trace.specs.UncheckedSteps.{checked, front_of, rest_of}
use Rattle.step_trace.proofs.Growth.{IsIndex-push}
use Rattle.step_trace.proofs.TickReasons.{CanAppend-from_none, known_from_none}
use Rattle.step_trace.proofs.TickPositions.{tick_of-limit}
use Rattle.step_trace.proofs.UncheckedSteps.{front-next, left-here, left-next, rest-next, rest-refused}
use Rattle.step_trace.proofs.unchecked_steps.Unchecked.check_next.Goals as goal

pub step_refusal-refusal-requires-clause-ended : goal.step_refusal-refusal-requires-clause-ended
step_refusal-refusal-requires-clause-ended c =
    let u = c.args.self.now in
    let count : c.len-count.result ≡ length u.taken.items = (let l = c.len-count.ensures in let ok = u.taken.ok in omega (arith, l, ok)) in
    rw (c.first-so_far.ensures, count) (tick_of-limit (checked u) c.requires.sound.trace.time (length (checked u).steps))

pub returns-in-Some-refusal-clause-refused : goal.returns-in-Some-refusal-clause-refused
returns-in-Some-refusal-clause-refused c =
    let u = c.args.self.now in
    let n = length u.taken.items in
    let count : c.len-count.result ≡ n = (let l = c.len-count.ensures in let ok = u.taken.ok in omega (arith, l, ok)) in
    let at : step_at u.placed.steps (n + 1) ≡ Some c.in-Some.step.now = rw count at (sym c.in-Some.ensures) in
    let time : c.tick-tick.result ≡ tick_at u.placed.ticks (n + 1) = rw count at c.tick-tick.ensures in
    let why : c.step_refusal-refusal.result ≡ refusal_in (checked u) c.tick-tick.result c.in-Some.step.now =
    rw (c.first-so_far.ensures, count) at c.step_refusal-refusal.ensures in
    let long = length-take-le n u.placed.steps c.requires.sound.inside in
    rw count (rest-refused u.config u.placed n u.last c.tick-tick.result c.in-Some.step.now c.requires.sound.each at time
    (record { no = n + 1; why = c.in-Some-refusal.why }) (λ other. rw (sym why ∙ c.in-Some-refusal.is, long) refl))

pub append_flag-requires-clause-known : goal.append_flag-requires-clause-known
append_flag-requires-clause-known c =
    let u = c.args.self.now in
    let n = length u.taken.items in
    let count : c.len-count.result ≡ n = (let l = c.len-count.ensures in let ok = u.taken.ok in omega (arith, l, ok)) in
    let why : c.step_refusal-refusal.result ≡ refusal_in (checked u) c.tick-tick.result c.in-Some.step.now =
    rw (c.first-so_far.ensures, count) at c.step_refusal-refusal.ensures in
    let known = known_from_none (checked u) c.tick-tick.result c.in-Some.step.now c.requires.sound.trace
    (sym why ∙ c.in_default-refusal.is) in
    rw (c.ids.ensures, c.reserve.ensures.items, c.requires.sound.index.long) known

pub returns-clause-sound : goal.returns-clause-sound
returns-clause-sound c =
    let u = c.args.self.now in
    let n = length u.taken.items in
    let x = c.in-Some.step.now in
    let tick = c.tick-tick.result in
    let flags = c.append_flag.new.taken.items in
    let count : c.len-count.result ≡ n = (let l = c.len-count.ensures in let ok = u.taken.ok in omega (arith, l, ok)) in
    let at : step_at u.placed.steps (n + 1) ≡ Some x = rw count at (sym c.in-Some.ensures) in
    let time : tick ≡ tick_at u.placed.ticks (n + 1) = rw count at c.tick-tick.ensures in
    let why : c.step_refusal-refusal.result ≡ refusal_in (checked u) tick x =
    rw (c.first-so_far.ensures, count) at c.step_refusal-refusal.ensures in
    let append = CanAppend-from_none (checked u) tick x c.requires.sound.trace (sym why ∙ c.in_default-refusal.is) in
    let next = front-next u.config u.placed n u.last tick x c.requires.sound.each at time in
    let len : length flags ≡ n + 1 = rw c.reserve.ensures.items at c.append_flag.ensures.len in
    let index = IsIndex-push (take n u.placed.steps) x u.taken.items flags c.requires.sound.index len
    (rw (c.reserve.ensures.items, c.ids.ensures) at c.append_flag.ensures.flags) in
    record {
      trace = subst (λ k. IsTrace (front_of u.config u.placed k tick))
          (sym len) (subst (λ (t : Recorded). IsTrace t) (sym next) append.sound);
      index = subst (λ k. IsIndex (take k u.placed.steps) flags)
          (sym len) (subst (λ (xs : List Step). IsIndex xs flags) (sym (ap (λ t. t.steps) next)) index);
      inside = let more = c.requires.more in omega (arith, more, len);
      each = c.requires.sound.each;
    }

pub returns-clause-leads : goal.returns-clause-leads
returns-clause-leads c =
    let u = c.args.self.now in
    let n = length u.taken.items in
    let count : c.len-count.result ≡ n = (let l = c.len-count.ensures in let ok = u.taken.ok in omega (arith, l, ok)) in
    let at : step_at u.placed.steps (n + 1) ≡ Some c.in-Some.step.now = rw count at (sym c.in-Some.ensures) in
    let time : c.tick-tick.result ≡ tick_at u.placed.ticks (n + 1) = rw count at c.tick-tick.ensures in
    let why : c.step_refusal-refusal.result ≡ refusal_in (checked u) c.tick-tick.result c.in-Some.step.now =
    rw (c.first-so_far.ensures, count) at c.step_refusal-refusal.ensures in
    let len : length c.append_flag.new.taken.items ≡ n + 1 = rw c.reserve.ensures.items at c.append_flag.ensures.len in
    ap (λ k. rest_of u.config u.placed k c.tick-tick.result) len
    ∙ rest-next u.config u.placed n u.last c.tick-tick.result c.in-Some.step.now c.requires.sound.each at time
    (sym why ∙ c.in_default-refusal.is)

pub returns-in-Some-refusal-clause-reached : goal.returns-in-Some-refusal-clause-reached
returns-in-Some-refusal-clause-reached c =
    let u = c.args.self.now in
    let n = length u.taken.items in
    let count : c.len-count.result ≡ n = (let l = c.len-count.ensures in let ok = u.taken.ok in omega (arith, l, ok)) in
    let at : step_at u.placed.steps (n + 1) ≡ Some c.in-Some.step.now = rw count at (sym c.in-Some.ensures) in
    let time : c.tick-tick.result ≡ tick_at u.placed.ticks (n + 1) = rw count at c.tick-tick.ensures in
    rw count (subst (λ k. IsReached (checked u) (drop n u.placed.steps) (drop n u.placed.ticks) (k + 1))
    (length-take-le n u.placed.steps c.requires.sound.inside)
    (left-here u.config u.placed n u.last c.tick-tick.result c.in-Some.step.now c.requires.sound.each at time))

pub returns-in_default-reserve-clause-reached : goal.returns-in_default-reserve-clause-reached
returns-in_default-reserve-clause-reached c =
    let u = c.args.self.now in
    let n = length u.taken.items in
    let count : c.len-count.result ≡ n = (let l = c.len-count.ensures in let ok = u.taken.ok in omega (arith, l, ok)) in
    let at : step_at u.placed.steps (n + 1) ≡ Some c.in-Some.step.now = rw count at (sym c.in-Some.ensures) in
    let time : c.tick-tick.result ≡ tick_at u.placed.ticks (n + 1) = rw count at c.tick-tick.ensures in
    rw count (subst (λ k. IsReached (checked u) (drop n u.placed.steps) (drop n u.placed.ticks) (k + 1))
    (length-take-le n u.placed.steps c.requires.sound.inside)
    (left-here u.config u.placed n u.last c.tick-tick.result c.in-Some.step.now c.requires.sound.each at time))

pub returns-clause-later : goal.returns-clause-later
returns-clause-later c = λ m h.
    let u = c.args.self.now in
    let n = length u.taken.items in
    let count : c.len-count.result ≡ n = (let l = c.len-count.ensures in let ok = u.taken.ok in omega (arith, l, ok)) in
    let at : step_at u.placed.steps (n + 1) ≡ Some c.in-Some.step.now = rw count at (sym c.in-Some.ensures) in
    let time : c.tick-tick.result ≡ tick_at u.placed.ticks (n + 1) = rw count at c.tick-tick.ensures in
    let why : c.step_refusal-refusal.result ≡ refusal_in (checked u) c.tick-tick.result c.in-Some.step.now =
    rw (c.first-so_far.ensures, count) at c.step_refusal-refusal.ensures in
    let len : length c.append_flag.new.taken.items ≡ n + 1 = rw c.reserve.ensures.items at c.append_flag.ensures.len in
    left-next u.config u.placed n u.last c.tick-tick.result c.in-Some.step.now c.requires.sound.each at time m
    (sym why ∙ c.in_default-refusal.is)
    (subst (λ k. IsReached (front_of u.config u.placed k c.tick-tick.result) (drop k u.placed.steps) (drop k u.placed.ticks) m) len h)
