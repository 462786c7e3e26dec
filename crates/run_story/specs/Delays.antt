-- Late messages as runs of rows that name their misses (own). Places of rows count from 0.
use Rattle.std.specs.Prelude.{ℕ, ◌≡◌, ◌+◌, ◌-◌, ◌<◌, ◌≤◌, ◌⊎◌, ◌↔◌, ◌==◌, ◌&&◌, ◌||◌, Bool, not, nat_le, List, length}
use Rattle.std.specs.Prelude.{Option, Some, IsTrue, IsSome, IsSomeAnd, slice_get, if◌then◌else◌, suc, zero}
use Rattle.std.specs.Option.{option_and_then, option_map_or}
use Rattle.step_trace.specs.declared.rows.Miss.{Miss}
use Rattle.step_trace.specs.declared.rows.Row.{Row}
use Rattle.step_trace.specs.PushRefusals.{is_taken}
use Rattle.step_trace.specs.Traces.{Recorded}
use Rattle.step_trace.specs.Ticks.{tick_of}
use Rattle.run_story.specs.declared.delays.Delay.{Delay}
use Rattle.run_story.specs.Messages.{sender_of, receiver_of}
use Rattle.run_story.specs.Stretches.{AreStretches}

-- the miss of the row at place k, if there is one
abbrev pub miss_at : List Row → ℕ → Option Miss
miss_at rows k = option_and_then (λ r. r.miss) (slice_get rows k)

-- the message of that miss; 0 if there is none
abbrev pub message_at : List Row → ℕ → ℕ
message_at rows k = option_map_or (λ m. m.sent) (miss_at rows k) 0

-- whether a miss is alike an earlier one: none of the two messages is ever taken. Or both are, and the later one was
-- sent no later than the Receive that misses the earlier one.
abbrev pub are_alike : Recorded → Miss → Miss → Bool
are_alike trace m o =
    if is_taken trace.steps m.sent then is_taken trace.steps o.sent && nat_le (tick_of trace o.sent)
    (tick_of trace m.missed)
    else not (is_taken trace.steps o.sent)

-- what the messages of these rows have in common with message s
abbrev pub AllHave : (ℕ → ℕ) → List Row → ℕ → ℕ → ℕ → Type 0
AllHave f rows first last s = (k : ℕ) → first ≤ k → k ≤ last → f (message_at rows k) ≡ f s

-- how many messages the rows from this place on name, of so many rows after it: each row that names another one than
-- the row before counts
abbrev pub messages_in : List Row → ℕ → ℕ → ℕ
messages_in rows first zero = 1
messages_in rows first (suc n) =
    if message_at rows (first + suc n) == message_at rows (first + n) then messages_in rows first n
    else messages_in rows first n + 1

-- The rows from place `first` to place `last` have misses, each alike the first one. If that message is ever taken, all
-- of their messages have one receiver, or all have one sender.
pub record IsDelayUpTo (trace : Recorded) (rows : List Row) (d : Delay) : Type 0 where
  pub named : miss_at rows d.first ≡ Some d.miss
  pub ticks : d.ticks ≡ tick_of trace d.miss.missed - tick_of trace d.miss.sent
  pub to : d.to ≡ receiver_of trace.steps d.miss.sent
  pub order : d.first ≤ d.last
  pub inside : d.last < length rows
  pub each : (k : ℕ) → d.first < k → k ≤ d.last → IsSomeAnd (miss_at rows k) (λ m. IsTrue (are_alike trace d.miss m))
  pub receiver : IsTrue d.one_receiver ↔ AllHave (receiver_of trace.steps) rows d.first d.last d.miss.sent
  pub sender : IsTrue d.one_sender ↔ AllHave (sender_of trace.steps) rows d.first d.last d.miss.sent
  pub common : IsTrue (is_taken trace.steps d.miss.sent) → IsTrue d.one_receiver ⊎ IsTrue d.one_sender
  pub messages : d.messages ≡ messages_in rows d.first (d.last - d.first)
  pub last_message : d.last_message ≡ message_at rows d.last

-- the delay with one more row, which misses message s
abbrev pub longer : Delay → ℕ → Bool → Bool → Delay
longer d s one_receiver one_sender = record {
  miss = d.miss;
  ticks = d.ticks;
  to = d.to;
  first = d.first;
  last = d.last + 1;
  messages = if s == d.last_message then d.messages else d.messages + 1;
  last_message = s;
  one_receiver = one_receiver;
  one_sender = one_sender;
}

-- whether a miss goes on with a delay that then has one receiver, or one sender
abbrev pub goes_on : Recorded → Miss → Miss → Bool → Bool → Bool
goes_on trace m o one_receiver one_sender =
    are_alike trace m o && (not (is_taken trace.steps m.sent) || (one_receiver || one_sender))

-- and no such run from the first row is longer
pub record IsDelay (trace : Recorded) (rows : List Row) (d : Delay) : Type 0 where
  pub run : IsDelayUpTo trace rows d
  pub ends : (o : Delay) → IsDelayUpTo trace rows o → o.first ≡ d.first → o.last ≤ d.last

-- the delays of rows that end before place n: each row before it with a miss is in one
abbrev pub AreDelaysTo : Recorded → List Row → ℕ → List Delay → Type 0
AreDelaysTo trace rows n delays = AreStretches Delay (λ d. d.first) (λ d. d.last) (IsDelay trace rows)
    (λ k. IsSome (miss_at rows k)) n delays

-- the delays of rows
abbrev pub AreDelays : Recorded → List Row → List Delay → Type 0
AreDelays trace rows delays = AreDelaysTo trace rows (length rows) delays

-- delays each of which ends before the next begins
pub record AreInOrder (delays : List Delay) : Type 0 where
  pub each : (k : ℕ) (d : Delay) → slice_get delays k ≡ Some d → d.first ≤ d.last
  pub ordered : (j k : ℕ) (c d : Delay) → j < k → slice_get delays j ≡ Some c → slice_get delays k ≡ Some d
      → c.last < d.first
