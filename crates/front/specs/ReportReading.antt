-- For which causes `read_report` refuses.
use Rattle.std.specs.Prelude.{◌≡◌, ℕ, List, Option, IfSome, Result, Err, ⊤}
use Rattle.trace_text.specs.Faults.{Rose, one_more}
use Rattle.front.specs.declared.refusals.ReportError.{ReportError}
use Rattle.front.specs.declared.refusals.ReportError.TheVariants as why
use Rattle.front.specs.ReportRefusals.{rows_of_text}

-- a fault of the reader that was counted, out of memory, or the first refusal of the text
abbrev pub RefusedFor : ReportError → ℕ → ℕ → Option (List ℕ) → Type 0
RefusedFor why.Read old new known = Rose old new
RefusedFor why.Memory old new known = ⊤
RefusedFor e old new known = IfSome known (λ text. rows_of_text text ≡ Err e)

-- the possible refusals of a text that encodes rows: its size, a fault, and out of memory
abbrev pub IsDeviceRefusal : ReportError → Type 0
IsDeviceRefusal why.TooLarge = ⊤
IsDeviceRefusal why.Read = ⊤
IsDeviceRefusal why.Memory = ⊤
IsDeviceRefusal e = ⊥

-- the count of faults after `read_report`: one more if it answers Read
abbrev pub faults_after_report : {A : Type 0} → Result A ReportError → ℕ → ℕ
faults_after_report (Err why.Read) n = one_more n
faults_after_report _ n = n
