-- How many messages are never taken (own).
use Rattle.std.specs.Prelude.{ℕ, ◌+◌, ◌&&◌, ◌==◌, Bool, false, not, nat_lt, List, length, Option}
use Rattle.std.specs.Prelude.{Some, None, slice_index_or, suc, zero, if◌then◌else◌}
use Rattle.std.specs.Option.{option_map_or}
use Rattle.step_trace.specs.declared.steps.Step.{Step}
use Rattle.step_trace.specs.PushRefusals.{is_taken}
use Rattle.step_trace.specs.Steps.{act_sends}
use Rattle.step_trace.specs.Traces.{Recorded, step_at}
use Rattle.step_trace.specs.Ticks.{tick_of}
use Rattle.run_story.specs.declared.message_counts.MessageCounts.{MessageCounts}
use Rattle.run_story.specs.Headlines.{is_between}
use Rattle.run_story.specs.Messages.{receiver_of}

-- whether step k is a Receive of p
abbrev pub is_receive_at : ℕ → List Step → ℕ → Bool
is_receive_at p steps k = option_map_or (λ x. not (act_sends x.act) && x.proc == p) (step_at steps k) false

-- the tick of the last Receive of p among the first n steps; 0 if there is none
abbrev pub last_receive : ℕ → Recorded → ℕ → ℕ
last_receive p trace zero = 0
last_receive p trace (suc n) = if is_receive_at p trace.steps (suc n) then tick_of trace
    (suc n) else last_receive p trace n

-- the tick of this processor in a list of ticks
abbrev pub tick_in : List ℕ → ℕ → ℕ
tick_in ticks p = slice_index_or ticks p 0

-- whether message s goes from a member to a member, and is never taken
abbrev pub is_untaken : ℕ → Recorded → ℕ → Bool
is_untaken set trace s = is_between set trace.steps s && not (is_taken trace.steps s)

-- whether its receiver receives in a later tick than its Send's
abbrev pub is_missed : Recorded → ℕ → Bool
is_missed trace s = nat_lt (tick_of trace s) (last_receive (receiver_of trace.steps s) trace (length trace.steps))

-- whether message s is lost, and whether it is under way
abbrev pub is_lost : ℕ → Recorded → ℕ → Bool
is_lost set trace s = is_untaken set trace s && is_missed trace s

abbrev pub is_under_way : ℕ → Recorded → ℕ → Bool
is_under_way set trace s = is_untaken set trace s && not (is_missed trace s)

-- how many of the first n messages pass a test
abbrev pub count_of : (ℕ → Bool) → ℕ → ℕ
count_of test zero = 0
count_of test (suc n) = if test (suc n) then count_of test n + 1 else count_of test n

-- the last of them that does
abbrev pub last_of : (ℕ → Bool) → ℕ → Option ℕ
last_of test zero = None
last_of test (suc n) = if test (suc n) then Some (suc n) else last_of test n

-- the counts of a trace
abbrev pub message_counts : ℕ → Recorded → MessageCounts
message_counts set trace = record {
  all = count_of (is_between set trace.steps) (length trace.steps);
  lost = count_of (is_lost set trace) (length trace.steps);
  under_way = count_of (is_under_way set trace) (length trace.steps);
  last_lost = last_of (is_lost set trace) (length trace.steps);
}
