-- What a page says first about a run (own).
use Rattle.std.specs.Prelude.{ℕ, ◌-◌, ◌&&◌, ◌||◌, ◌==◌, Bool, false, not, nat_le, nat_lt, List, length}
use Rattle.std.specs.Prelude.{Option, Some, None, slice_index_or, suc, zero, if◌then◌else◌}
use Rattle.std.specs.Option.{option_map_or}
use Rattle.step_trace.specs.declared.rows.Row.{Row}
use Rattle.step_trace.specs.declared.steps.Step.{Step}
use Rattle.step_trace.specs.Processors.{has_proc}
use Rattle.step_trace.specs.PushRefusals.{is_taken}
use Rattle.step_trace.specs.Traces.{Recorded, step_at}
use Rattle.step_trace.specs.Ticks.{tick_of}
use Rattle.run_story.specs.declared.headlines.Headline.{Headline}
use Rattle.run_story.specs.declared.headlines.TheConstants.{SHORT_RUN}
use Rattle.run_story.specs.declared.headlines.Headline.TheVariants as said
use Rattle.run_story.specs.CalmRows.{is_poor}
use Rattle.run_story.specs.Messages.{receiver_of, sender_of}

-- the row at this place, of those of a report
abbrev pub row_in : List Row → ℕ → Row
row_in rows k = slice_index_or rows k (record { gst = 1; delta = 1; phi = 1; miss = None; gap = None })

-- whether message s goes from a member to a member
abbrev pub is_between : ℕ → List Step → ℕ → Bool
is_between set steps s = has_proc set (sender_of steps s) && has_proc set (receiver_of steps s)

-- whether, of the first n messages, one is sent in tick g or later between members
abbrev pub sends_from : ℕ → Recorded → ℕ → ℕ → Bool
sends_from set trace g zero = false
sends_from set trace g (suc n) = (is_between set trace.steps (suc n) && nat_le g (tick_of trace (suc n))) ||
    sends_from set trace g n

-- the last of the first n steps that is one of p
abbrev pub last_step_of : ℕ → List Step → ℕ → Option ℕ
last_step_of p steps zero = None
last_step_of p steps (suc n) = if option_map_or (λ x. x.proc == p) (step_at steps (suc n)) false then Some
    (suc n) else last_step_of p steps n

-- whether the gap of a row lasts to the end, and its processor bound is no smaller than the other
abbrev pub is_silent_to_end : ℕ → Row → Bool
is_silent_to_end last r = nat_le r.delta r.phi && option_map_or (λ w. w.to == last) r.gap false

-- whether the message that a row names is never taken
abbrev pub is_lost_in : List Step → Row → Bool
is_lost_in steps r = option_map_or (λ m. not (is_taken steps m.sent)) r.miss false

-- the headline of a run that isn't short, and whose calm row is poor
abbrev pub poor_headline : Recorded → Row → Headline
poor_headline trace r =
    if is_silent_to_end trace.last r then said.SilentToEnd (option_map_or (λ w. w.proc) r.gap 0)
    (last_step_of (option_map_or (λ w. w.proc) r.gap 0) trace.steps (length trace.steps))
    else if is_lost_in trace.steps r then said.NeverReceived
    else if nat_le r.delta r.phi then said.Silence (r.phi - 1)
    else said.Late (r.delta - 1)

-- the headline of a run with this first row and this calm row, which isn't poor if it is given
abbrev pub headline_of : ℕ → Recorded → Row → Row → Bool → Headline
headline_of set trace first r given =
    if set == 0 then said.NoMember
    else if length trace.steps == 0 then said.NoStep
    else if given || not (is_poor trace.last r) then said.Calm (sends_from set trace r.gst (length trace.steps))
    else if nat_lt trace.last SHORT_RUN then said.Short first.delta first.phi
    else poor_headline trace r
