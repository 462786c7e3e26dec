use Rattle.std.proofs.Common.{◌≡◌, ◌∙◌, ◌<◌, sym, ap, subst, get_or, length}
use Rattle.std.specs.Prelude.{position}
use Rattle.std.specs.Str.{bytes_eq}
use Rattle.trace_text.proofs.Numbers.{same-from_bytes_eq}
use Rattle.event_log.specs.NameKeys.{name_of}
use Rattle.event_log.specs.Names.{names_in}
use Rattle.event_log.proofs.FoundNames.{found-at}
use Rattle.event_log.proofs.names.NameSet.is_at.Goals as goal

pub returns-in-Some : goal.returns-in-Some
unfolding names_in
returns-in-Some c = λ same. (
    let keys = c.self.inside.names.keys in
    let key = c.in-Some.key.now in
    let there = c.in-Some.ensures.lookup.3 in
    let within = subst (λ ks. c.args.place < length ks) c.as_slice.ensures.keys there.0 in
    let at : key ≡ get_or keys c.args.place key
    = there.1 key ∙ ap (λ ks. get_or ks c.args.place key) c.as_slice.ensures.keys in
    let name : name_of (get_or keys c.args.place key) ≡ c.args.name.now
    = ap name_of (sym at) ∙ sym c.as_slice-in-Some.ensures ∙ same-from_bytes_eq _ _ (sym c.are_same.ensures ∙ same) in
    ap (λ names. position (bytes_eq c.args.name.now) names) (sym c.self.view_is)
    ∙ ap (λ n. position (bytes_eq n) (names_in c.self.inside.names)) (sym name)
    ∙ found-at name_of keys c.args.place key c.as_slice.ensures.unique within)
