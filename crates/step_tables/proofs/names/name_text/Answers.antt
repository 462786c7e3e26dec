use Rattle.std.proofs.Common.{◌≡◌, ◌∙◌, sym, true}
use Rattle.trace_text.specs.Names.{is_name}
use Rattle.trace_text.proofs.NameTexts.{name-text}
use Rattle.step_tables.proofs.names.name_text.Goals as goal

pub returns-then-is_name : goal.returns-then-is_name
returns-then-is_name c =
    let name : is_name c.args.name.now ≡ true = sym c.is_name.ensures ∙ c.if-is_name.true in
    rw name (c.text_of.ensures ∙ name-text c.args.name.now name)
