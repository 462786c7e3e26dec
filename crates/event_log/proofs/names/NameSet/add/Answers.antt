use Rattle.std.proofs.Common.{◌≡◌, sym, true, refl}
use Rattle.std.specs.Str.{bytes_eq}
use Rattle.trace_text.specs.Names.{has_name}
use Rattle.event_log.specs.Names.{with_name}
use Rattle.event_log.proofs.Views.{position-is}
use Rattle.event_log.proofs.names.NameSet.add.Goals as goal

pub returns-in-Some-clause-names : goal.returns-in-Some-clause-names
unfolding with_name
returns-in-Some-clause-names c =
    let there : has_name c.args.self.now c.args.name.now ≡ true = sym c.in-Some.ensures.found in
    rw there refl

pub returns-in-Some-clause-place : goal.returns-in-Some-clause-place
returns-in-Some-clause-place c = position-is (bytes_eq c.args.name.now) c.args.self.now c.in-Some.place (sym c.in-Some.ensures.place)
