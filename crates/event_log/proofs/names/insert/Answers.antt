use Rattle.std.proofs.Common.{◌∙◌, ap, sym, not, map}
use Rattle.std.proofs.lemmas.List.{length-map}
use Rattle.std.specs.Str.{bytes_eq}
use Rattle.std.specs.List.{list_any}
use Rattle.event_log.specs.NameKeys.{name_of}
use Rattle.event_log.specs.Names.{names_in, with_name}
use Rattle.event_log.proofs.Views.{list_any-map, position_or_len-map, map-one}
use Rattle.event_log.proofs.names.insert.Goals as goal

pub returns-clause-names : goal.returns-clause-names
unfolding names_in with_name
returns-clause-names c =
    let name = bytes_eq (name_of c.args.key) in
    let keys = c.args.names.now.keys in
    ap (λ ks. map name_of ks) c.in-Ok.ensures.keys
    ∙ rw (list_any-map name_of name keys) (map-one name_of c.args.key keys (list_any (λ k. name (name_of k)) keys))

pub returns-clause-place : goal.returns-clause-place
unfolding names_in
returns-clause-place c =
    c.in-Ok.ensures.index ∙ sym (position_or_len-map name_of (bytes_eq (name_of c.args.key)) c.args.names.now.keys)

pub returns-clause-added : goal.returns-clause-added
unfolding names_in
returns-clause-added c =
    c.in-Ok.ensures.added ∙ sym (ap not (list_any-map name_of (bytes_eq (name_of c.args.key)) c.args.names.now.keys))

pub returns-in_default-clause-kept : goal.returns-in_default-clause-kept
unfolding names_in
returns-in_default-clause-kept c = ap (λ ks. map name_of ks) c.in_default.ensures.err

pub returns-clause-within : goal.returns-clause-within
unfolding names_in
returns-clause-within c = rw (length-map c.insert_full.new.self.keys name_of) c.in-Ok.ensures.within
