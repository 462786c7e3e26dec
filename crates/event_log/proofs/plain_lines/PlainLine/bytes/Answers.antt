use Rattle.std.proofs.Common.{◌≡◌, ◌∙◌, List, ℕ, ap, sym, map}
use Rattle.trace_text.specs.Records.{field_of}
use Rattle.event_log.proofs.PlainLines.{no-field, slice-field}
use Rattle.event_log.proofs.plain_lines.PlainLine.bytes.Goals as goal

pub returns-in-Some : goal.returns-in-Some
returns-in-Some c =
    let look = c.in-Some.ensures.lookup in
    let slices = c.deref.result.now in
    let same : map (λ s. s.now) slices ≡ c.args.self.now = ap (map (λ s. s.now)) c.deref.ensures.0 ∙ c.self.view_is in
    slice-field slices c.args.place c.in-Some.field.now look.3.0 look.1 ∙ ap (λ (fs : List (List ℕ)). field_of fs c.args.place) same

pub returns-in-None : goal.returns-in-None
returns-in-None c =
    let slices = c.deref.result.now in
    let same : map (λ s. s.now) slices ≡ c.args.self.now = ap (map (λ s. s.now)) c.deref.ensures.0 ∙ c.self.view_is in
    sym (ap (λ (fs : List (List ℕ)). field_of fs c.args.place) (sym same) ∙ no-field slices c.args.place c.in-None.ensures.lookup.3)
