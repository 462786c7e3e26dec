-- Delays grow row by row.
use Rattle.std.proofs.Common.{ℕ, ◌≡◌, ◌+◌, ◌-◌, ◌<◌, ◌≤◌, ◌⊎◌, ◌==◌, ◌&&◌, ◌||◌, ◌∙◌, inl, inr, not, Bool, true, false, List, length, Some, IsTrue, refl, sym, ap, suc, arith, eq-eqb}
use Rattle.std.specs.Prelude.{◌↔◌}
use Rattle.std.specs.Option.{option_and_then}
use Rattle.std.proofs.lemmas.Bool.{cases_lt, and_parts}
use Rattle.std.proofs.lemmas.Bool.Decides.{nat_tests}
use Rattle.std.proofs.lemmas.Option.{none-some, slice_get_cases}
use Rattle.step_trace.specs.declared.rows.Miss.{Miss}
use Rattle.step_trace.specs.declared.rows.Row.{Row}
use Rattle.step_trace.specs.PushRefusals.{is_taken}
use Rattle.step_trace.specs.Traces.{Recorded}
use Rattle.run_story.specs.declared.delays.Delay.{Delay}
use Rattle.run_story.specs.Messages.{sender_of, receiver_of}
use Rattle.run_story.specs.Delays.{AllHave, IsDelayUpTo, are_alike, goes_on, longer, message_at, messages_in, miss_at}

-- if a row has a miss there is a row
miss_within : (rows : List Row) (k : ℕ) (m : Miss) → miss_at rows k ≡ Some m → k < length rows
miss_within rows k m is = elim ((slice_get_cases rows k).1) [
  | inl found ↦ found.1
  | inr past ↦ absurd (none-some m (sym (ap (option_and_then (λ r. r.miss)) past.1) ∙ is))
]

-- what all messages so far have, and the next one has too
pub all_have-next : (f : ℕ → ℕ) (rows : List Row) (first last s : ℕ) (all next : Bool) → first ≤ last
    → (IsTrue all ↔ AllHave f rows first last s) → (IsTrue next ↔ (f (message_at rows (last + 1)) ≡ f s))
    → IsTrue (all && next) ↔ AllHave f rows first (last + 1) s
all_have-next f rows first last s all next order known new = (
  λ both. let parts = and_parts all next both in λ k low high. elim (cases_lt last k) [
    | inr before ↦ known.0 parts.0 k low before
    | inl after ↦ (let here : k ≡ last + 1 = omega arith in rw here (new.0 parts.1))
  ],
  λ have. both all next (known.1 (λ k low high. have k low (omega arith))) (new.1 (have (last + 1) (omega arith) (omega arith))),
) where
  both : (a b : Bool) → IsTrue a → IsTrue b → IsTrue (a && b)
  both a b t u = rw (t, u) refl

-- the row after a delay, if its miss goes on with it
pub longer-run : (trace : Recorded) (rows : List Row) (d : Delay) (next : Miss) (one_receiver one_sender : Bool) → IsDelayUpTo trace rows d
    → miss_at rows (d.last + 1) ≡ Some next
    → one_receiver ≡ (d.one_receiver && receiver_of trace.steps next.sent == d.to)
    → one_sender ≡ (d.one_sender && sender_of trace.steps next.sent == sender_of trace.steps d.miss.sent)
    → goes_on trace d.miss next one_receiver one_sender ≡ true
    → IsDelayUpTo trace rows (longer d next.sent one_receiver one_sender)
longer-run trace rows d next one_receiver one_sender run is to from goes = record {
  named = run.named;
  ticks = run.ticks;
  to = run.to;
  order = (let order = run.order in omega (arith, order));
  inside = miss_within rows (d.last + 1) next is;
  each = λ k low high. elim (cases_lt d.last k) [
    | inr before ↦ run.each k low before
    | inl after ↦ (let here : k ≡ d.last + 1 = omega arith in rw (here, is) parts.0)
  ];
  receiver = rw to (all_have-next (receiver_of trace.steps) rows d.first d.last d.miss.sent d.one_receiver _ run.order run.receiver
      (by_test (receiver_of trace.steps next.sent) d.to _ _ (ap (receiver_of trace.steps) message) run.to));
  sender = rw from (all_have-next (sender_of trace.steps) rows d.first d.last d.miss.sent d.one_sender _ run.order run.sender
      (by_test (sender_of trace.steps next.sent) (sender_of trace.steps d.miss.sent) _ _ (ap (sender_of trace.steps) message) refl));
  common = common;
  messages = messages;
  last_message = sym message;
} where
  parts : IsTrue (are_alike trace d.miss next) × IsTrue (not (is_taken trace.steps d.miss.sent) || (one_receiver || one_sender))
  parts = and_parts (are_alike trace d.miss next) _ goes

  message : message_at rows (d.last + 1) ≡ next.sent
  message = rw is refl

  by_test : (a b x y : ℕ) → x ≡ a → b ≡ y → IsTrue (a == b) ↔ (x ≡ y)
  by_test a b x y e f = rw (e, sym f) (λ t. grind (arith, nat_tests), λ t. eq-eqb a b t)

  common : IsTrue (is_taken trace.steps d.miss.sent) → IsTrue one_receiver ⊎ IsTrue one_sender
  common taken = one_of (is_taken trace.steps d.miss.sent) one_receiver one_sender taken parts.1 where
    one_of : (t a b : Bool) → IsTrue t → IsTrue (not t || (a || b)) → IsTrue a ⊎ IsTrue b
    one_of true true b t h = inl refl
    one_of true false b t h = inr h
    one_of false a b t h = absurd (let e : IsTrue false = t in cc)

  messages : (longer d next.sent one_receiver one_sender).messages ≡ messages_in rows d.first (d.last + 1 - d.first)
  messages =
      let order = run.order in
      let more : d.last + 1 - d.first ≡ suc (d.last - d.first) = omega (arith, order) in
      let here : d.first + suc (d.last - d.first) ≡ d.last + 1 = omega (arith, order) in
      let before : d.first + (d.last - d.first) ≡ d.last = omega (arith, order) in
      rw (more, here, before, message, sym run.last_message, sym run.messages) refl
