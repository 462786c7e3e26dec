-- What a command's words give: nothing if one of them is missing; else a job, or why there is none.
use Rattle.std.specs.Prelude.{Option, Result, IsNone, IsSomeAnd, MatchOption, MatchResult}
use Rattle.command_line.specs.declared.jobs.Job.{Job}
use Rattle.command_line.specs.declared.line_errors.LineError.{LineError}

abbrev pub Given : Type 0
Given = Option (Result Job LineError)

infixl 10 ◌>>=◌
-- the words have this, and then give so; or they lack it, and give nothing
abbrev pub ◌>>=◌ : {A : Type 0} → Option A → (A → Given → Type 0) → Given → Type 0
o >>= rest = λ given. MatchOption o (IsNone given) (λ x. rest x given)

-- they give such a job, or are refused so
abbrev pub answers : (Job → Type 0) → (LineError → Type 0) → Given → Type 0
answers IsJob IsRefusal given = IsSomeAnd given (λ r. MatchResult r IsJob IsRefusal)
