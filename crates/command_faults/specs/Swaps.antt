-- Two files of a judgement that may be swapped.
use Rattle.std.specs.Prelude.{ℕ, Bool, true, List, codes, nat_eq}
use Rattle.std.specs.List.{starts_with}
use Rattle.trace_text.specs.declared.refusals.TextError.TheVariants as why
use Rattle.command_faults.specs.declared.faults.Fault.{Fault}
use Rattle.command_faults.specs.declared.faults.Fault.TheVariants as fault

-- whether a text begins as that of a trace
abbrev pub begins_as_trace : List ℕ → Bool
begins_as_trace text = starts_with nat_eq text (codes "dls-trace,")

-- the fault of a trace that has no header of one, if that is so of the text of decisions; any other fault unchanged
abbrev pub fault_of_swapped : Fault → Bool → Fault
fault_of_swapped (fault.Trace why.BadHeader) true = fault.Swapped
fault_of_swapped w begins = w
