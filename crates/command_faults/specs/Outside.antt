-- Processors and ticks that are asked for, and that a trace or a run hasn't.
use Rattle.std.specs.Prelude.{ℕ, ◌≡◌}
use Rattle.step_trace.specs.Members.{IsLeastAbove}
use Rattle.command_faults.specs.declared.faults.Fault.{Fault}
use Rattle.command_faults.specs.declared.faults.Fault.TheVariants as fault
use Rattle.command_faults.specs.declared.faults.MemberOutside.{MemberOutside}
use Rattle.command_faults.specs.declared.faults.SetOption.{SetOption}

-- It names the least member of the set above n, and n.
pub record IsMemberOutside (set n : ℕ) (o : MemberOutside) : Type 0 where
  pub least : IsLeastAbove set n o.member
  pub count : o.count ≡ n

-- the fault of a set that this option names, of which a member is above n
abbrev pub IsSetFault : SetOption → ℕ → ℕ → Fault → Type 0
IsSetFault option set n (fault.Set of_option o) = (of_option ≡ option) × IsMemberOutside set n o
IsSetFault option set n _ = ⊥
