use Rattle.std.proofs.Common.{rules, ◌≡◌, ◌+◌, ◌-◌, ◌∙◌, inl, inr, List, length, Some, refl, ap, arith}
use Rattle.std.specs.Prelude.{slice_get}
use Rattle.std.proofs.lemmas.Bool.{cases_lt}
use Rattle.step_trace.specs.declared.rows.Gap.{Gap}
use Rattle.chunk_join.specs.Summaries.{Summary}
use Rattle.chunk_join.specs.Finishes.{last_at, with_silence, IsGoneOver}
use Rattle.chunk_join.proofs.MessagesBack.{last_at-Contains}
use Rattle.chunk_join.proofs.TicksBack.{IsGoneOver-none, IsGoneOver-repeated, IsTickBack, IsTickBack-read}
use Rattle.chunk_join.proofs.finishes.stairs_of.Goals as goal
use Rattle.chunk_join.proofs.finishes.stairs_of.Goals.{After-note_silence}

pub loop-next-init : goal.loop-next-init
loop-next-init c =
    let part = c.args.part.now in
    let end : c.part.inside.to ≡ part.to = ap (λ (s : Summary). s.to) c.part.view_is in
    let messages : c.len-messages.result ≡ length part.sent = search rules in
    let silences : c.len-silences.result ≡ length part.silent = search rules in
    record {
      low = omega arith;
      from = λ l. omega (arith, l, end);
      known = rw (end, messages, silences, c.new-builder.ensures) (IsGoneOver-none part _ refl refl refl refl);
    }

pub note_silence-requires-clause-end : goal.note_silence-requires-clause-end
note_silence-requires-clause-end c = λ w e.
    (let top : last_at c.part.inside.silent.items c.begun_by-silences.result ≡ Some w = search rules in
    let high = (c.part.invariant.silent_inside w (last_at-Contains c.part.inside.silent.items c.begun_by-silences.result w top)).1 in
    omega (arith, high, c.part.invariant.end))

-- one tick back
back : (c : After-note_silence) → IsTickBack c.args.part.now
    (c.loop-next.next - 1) c.note_messages-messages.result c.begun_by-silences.result c.note_silence.new.level c.loop-next.builder
back c =
    let part = c.args.part.now in
    let g = c.loop-next.next - 1 in
    let low = c.loop-next.invariant.low in
    let next : c.loop-next.next ≡ g + 1 = omega (arith, c.loop-next-test.true) in
    let known : IsGoneOver part (g + 1) c.loop-next.messages c.loop-next.silences c.loop-next.level c.loop-next.builder =
    rw next at c.loop-next.invariant.known in
    let noted = c.note_messages-messages.ensures in
    let begun = c.begun_by-silences.ensures in
    let items : c.deref.result.now ≡ part.silent = search rules in
    let again : c.deref-in-loop-next.result.now ≡ part.silent = search rules in
    let is : c.note_silence.new.level ≡ with_silence c.note_messages-messages.new.level g (last_at part.silent c.begun_by-silences.result) =
    c.note_silence.ensures ∙ ap (with_silence c.note_messages-messages.new.level g)
    (c.last_at.ensures ∙ ap (λ (xs : List Gap). last_at xs c.begun_by-silences.result) again) in
    rw is (IsTickBack-read part g c.loop-next.messages c.loop-next.silences c.note_messages-messages.result
    c.begun_by-silences.result c.loop-next.level c.note_messages-messages.new.level c.loop-next.builder
    known (record {
      start = omega (arith, c.loop-next-test.true);
      messages_within = omega (arith, noted.within, known.messages_within);
      silences_within = omega (arith, begun.within, known.silences_within);
      falling = noted.falling;
      phi = noted.phi;
      gap = noted.gap;
      sent = λ k m l h. elim (cases_lt k c.loop-next.messages) [
        | inl below ↦ noted.later k m l below h
        | inr above ↦ (let a = known.sent k m (omega (arith, above)) h in omega (arith, a))
      ];
      earlier = noted.earlier;
      misses = noted.misses known.misses;
      silent = λ k w l h. elim (cases_lt k c.loop-next.silences) [
        | inl below ↦ begun.later k w l below (ap (λ (xs : List Gap). slice_get xs k) items ∙ h)
        | inr above ↦ (let a = known.silent k w (omega (arith, above)) h in omega (arith, a))
      ];
      begun = λ w h. begun.begun w (ap (λ (xs : List Gap). last_at xs c.begun_by-silences.result) items ∙ h);
    }))

pub quiet_from-next-requires-clause-end : goal.quiet_from-next-requires-clause-end
quiet_from-next-requires-clause-end c = λ w e.
    (let top : last_at c.part.inside.silent.items c.begun_by-silences.result ≡ Some w = search rules in
    let high = (c.part.invariant.silent_inside w (last_at-Contains c.part.inside.silent.items c.begun_by-silences.result w top)).1 in
    omega (arith, high, c.part.invariant.end))

pub loop-next-preserved : goal.loop-next-preserved
loop-next-preserved c =
    let part = c.args.part.now in
    let quiet = c.quiet_from-next.ensures.quiet in
    let g : c.quiet_from-next.result + (c.loop-next.next - 1 - c.quiet_from-next.result)
    ≡ c.loop-next.next - 1 = omega (arith, c.quiet_from-next.ensures.high) in
    let known = (back (goal.at.loop-next-preserved c).After-note_silence).known in
    record {
      low = quiet.start;
      from = λ l. c.quiet_from-next.ensures.low;
      known = rw (c.repeat.ensures, c.in_ok-lower.ensures.ok) (IsGoneOver-repeated part
          (c.loop-next.next - 1 - c.quiet_from-next.result) c.quiet_from-next.result _ _ _ c.loop-next.builder (rw g known) quiet);
    }

pub returns : goal.returns
returns c = λ set t sound a inside.
    (let to = a.to in
    let low = c.loop-next.invariant.from (omega (arith, inside, to)) in
    let first : c.loop-next.next ≡ c.args.from = omega (arith, low, c.loop-next-test.false) in
    rw c.build.ensures ((rw first at c.loop-next.invariant.known).ticks.each set t sound a))
