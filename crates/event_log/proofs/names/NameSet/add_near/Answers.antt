use Rattle.std.proofs.Common.{◌≡◌, ap, not, sym, true, refl}
use Rattle.std.specs.Str.{bytes_eq}
use Rattle.trace_text.specs.Names.{has_name}
use Rattle.event_log.specs.Names.{with_name}
use Rattle.event_log.proofs.FoundNames.{any-found, within-found}
use Rattle.event_log.proofs.Views.{position-is}
use Rattle.event_log.proofs.names.NameSet.add_near.Goals as goal

pub returns-then-is_at-clause-names : goal.returns-then-is_at-clause-names
unfolding with_name
returns-then-is_at-clause-names c =
    let there : has_name c.args.self.now c.args.name.now
    ≡ true = any-found (bytes_eq c.args.name.now) c.args.self.now c.args.guess (c.is_at.ensures c.if-is_at.true) in
    rw there refl

pub returns-then-is_at-clause-place : goal.returns-then-is_at-clause-place
returns-then-is_at-clause-place c = position-is (bytes_eq c.args.name.now) c.args.self.now c.args.guess (c.is_at.ensures c.if-is_at.true)

pub returns-then-is_at-clause-added : goal.returns-then-is_at-clause-added
returns-then-is_at-clause-added c =
    ap not (sym (any-found (bytes_eq c.args.name.now) c.args.self.now c.args.guess (c.is_at.ensures c.if-is_at.true)))

pub returns-then-is_at-clause-within : goal.returns-then-is_at-clause-within
returns-then-is_at-clause-within c = within-found (bytes_eq c.args.name.now) c.args.self.now c.args.guess (c.is_at.ensures c.if-is_at.true)
