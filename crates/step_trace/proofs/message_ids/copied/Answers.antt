use Rattle.std.proofs.Common.{◌∙◌, ap, sym}
use Rattle.std.specs.List.{each_same}
use Rattle.step_trace.specs.KeptIds.{ids_in}
use Rattle.step_trace.proofs.message_ids.copied.Goals as goal

pub returns-in_ok-clone-in-Two-clause-ids : goal.returns-in_ok-clone-in-Two-clause-ids
returns-in_ok-clone-in-Two-clause-ids c =
    each_same c.in-Two.two.value c.in_ok-clone-in-Two.field-0.value c.in_ok-clone-in-Two.ensures.cases.whole
    ∙ ap ids_in (sym c.in-Two.is)

pub returns-in_ok-clone-in-Several-clause-ids : goal.returns-in_ok-clone-in-Several-clause-ids
returns-in_ok-clone-in-Several-clause-ids c =
    each_same c.in-Several.items.value.items c.in_ok-clone-in-Several.field-0.value.items c.in_ok-clone-in-Several.ensures.cases.0
    ∙ ap ids_in (sym c.in-Several.is)
