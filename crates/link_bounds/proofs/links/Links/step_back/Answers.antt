use Rattle.std.proofs.Common.{ℕ, ◌≡◌, ◌-◌, ◌<◌, length, get_or, Option, None, ◌∙◌, sym, ap, subst, arith}
use Rattle.std.proofs.lemmas.List.{length-set, get_or_read}
use Rattle.std.proofs.lemmas.Option.{same_Some}
use Rattle.step_trace.specs.declared.steps.Step.{Step}
use Rattle.suffix_staircase.proofs.LongestGaps.{member_range}
use Rattle.suffix_staircase.proofs.MissNumbers.{IsLastMissOf-from_numbers}
use Rattle.link_bounds.specs.Evidence.{noted, without_evidence}
use Rattle.link_bounds.specs.Links.{IsMessageOn}
use Rattle.link_bounds.specs.KnownMisses.{place_of}
use Rattle.link_bounds.specs.declared.bounds.LeastBound.{LeastBound}
use Rattle.step_trace.specs.declared.rows.Miss.{Miss}
use Rattle.step_trace.specs.Ticks.{tick_of}
use Rattle.std.specs.Prelude.{unwrap_or}
use Rattle.link_bounds.proofs.LinkMisses.{KnowsLinks-pass, links_noted}
use Rattle.link_bounds.proofs.links.Links.step_back.Goals as goal

pub returns-in_default : goal.returns-in_default
returns-in_default c =
    KnowsLinks-pass c.args.set c.args.trace.now c.args.no c.args.self.now c.requires.low c.in_default.ensures c.requires.known

pub returns : goal.returns
returns c =
    let t = c.args.trace.now in
    let bounds = c.args.self.now.bounds.items in
    let known = c.requires.known in
    let m = c.in-Some.ensures in
    let from = c.step_of.result.now.proc in
    let to = c.in-Some.to in
    let sender : m.from ≡ from = ap (λ (x : Step). x.proc) (same_Some _ _ (sym m.sent ∙ c.step_of.ensures.step)) in
    let message : IsMessageOn c.args.set t.steps from to c.args.no = subst (λ (p : ℕ). IsMessageOn c.args.set t.steps p to c.args.no) sender
    (record { sent = m.sent; sender = m.sender; receiver = m.receiver }) in
    let inside = c.requires.within from message.sender in
    let few = (member_range c.args.set to message.receiver).1 in
    let long = known.long in
    let place : place_of from to < length bounds = omega arith in
    let last = IsLastMissOf-from_numbers c.args.set t c.requires.sound c.args.no c.args.missed c.requires.missed in
    let each =
    links_noted c.args.set t c.args.no from to c.args.missed bounds c.requires.low inside few known.long message last known.each in
    let at = place_of from to in
    let slot : c.index.result.now ≡ get_or bounds at None =
    get_or_read bounds at c.index.result.now place (rw c.place_of-place.ensures at c.index.ensures) None in
    let bound : c.unwrap_or-bound.result ≡ unwrap_or (get_or bounds at None) without_evidence =
    c.unwrap_or-bound.ensures ∙ ap (λ (b : LeastBound Miss). unwrap_or c.index.result.now b) c.without_evidence.ensures
    ∙ ap (λ (o : Option (LeastBound Miss)). unwrap_or o without_evidence) slot in
    let span : c.saturating_sub-long.result ≡ tick_of t c.args.missed - tick_of t c.args.no =
    omega (arith, c.saturating_sub-long.ensures, c.tick_at.ensures.value, c.tick.ensures.value) in
    let miss : Miss = record { sent = c.args.no; missed = c.args.missed } in
    let new : c.note.new.self ≡ noted (unwrap_or (get_or bounds at None) without_evidence) miss
    (tick_of t c.args.missed - tick_of t c.args.no) =
    c.note.ensures ∙ ap (λ (b : LeastBound Miss). noted b miss c.saturating_sub-long.result) bound
    ∙ ap (λ (n : ℕ). noted (unwrap_or (get_or bounds at None) without_evidence) miss n) span in
    record {
      long = length-set bounds _ _ ∙ known.long;
      each = λ p q a b. rw (c.place_of-place.ensures, new) (each p q a b);
    }
