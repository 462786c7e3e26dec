-- Trace text: the records of a trace in each version, and the texts that encode it.
use Rattle.std.specs.Prelude.{ℕ, ◌≡◌, ◌+◌, ◌-◌, ◌<◌, ◌^◌, List, [], ◌∷◌, ◌++◌, length, map, take, drop, All, Bool}
use Rattle.std.specs.Prelude.{true, false, ◌&&◌, ◌==◌, if◌then◌else◌, ⊤, codes, decimal}
use Rattle.std.specs.List.{join_with_byte}
use Rattle.step_trace.specs.declared.steps.Act.{Act}
use Rattle.step_trace.specs.declared.steps.Act.TheVariants.{Send, Receive}
use Rattle.step_trace.specs.declared.steps.Step.{Step}
use Rattle.step_trace.specs.Configurations.{IsSetup}
use Rattle.step_trace.specs.Traces.{Recorded}
use Rattle.step_trace.specs.Ticks.{tick_at, IsTrace, IsOnePerTick}
use Rattle.trace_text.specs.declared.versions.Version.{Version}
use Rattle.trace_text.specs.declared.versions.Version.TheVariants.{One, Two}
use Rattle.trace_text.specs.Records.{record_line, records_of_text, text_of_records}

-- the field of a version
abbrev pub version_field : Version → List ℕ
version_field One = codes "1"
version_field Two = codes "2"

-- dls-trace,V,N,t
abbrev pub header_record : Version → ℕ → ℕ → List (List ℕ)
header_record v n t = codes "dls-trace" ∷ version_field v ∷ decimal n ∷ decimal t ∷ []

-- init,v1,..,vN
abbrev pub init_record : List ℕ → List (List ℕ)
init_record values = codes "init" ∷ map decimal values

-- S for a Send, R for a Receive, E for a Receive that ends the round
abbrev pub op_text : Act → List ℕ
op_text (Send to) = codes "S"
op_text (Receive false ids) = codes "R"
op_text (Receive true ids) = codes "E"

-- the destination of a Send, or the ids of a Receive with one space between them
abbrev pub arg_text : Act → List ℕ
arg_text (Send to) = decimal to
arg_text (Receive ends ids) = join_with_byte 32 (map decimal ids)

-- no,proc,op,arg in version 1, and no,tick,proc,op,arg in version 2
abbrev pub step_record : Version → ℕ → ℕ → Step → List (List ℕ)
step_record One at tick x = decimal at ∷ decimal x.proc ∷ op_text x.act ∷ arg_text x.act ∷ []
step_record Two at tick x = decimal at ∷ decimal tick ∷ decimal x.proc ∷ op_text x.act ∷ arg_text x.act ∷ []

-- a record for each step, numbered from this number on, by the ticks of all steps
abbrev pub step_records : Version → List ℕ → ℕ → List Step → List (List (List ℕ))
step_records v ticks at [] = []
step_records v ticks at (x ∷ xs) = step_record v at (tick_at ticks at) x ∷ step_records v ticks (at + 1) xs

-- end,L, where L is the last tick
abbrev pub end_record : ℕ → List (List ℕ)
end_record last = codes "end" ∷ decimal last ∷ []

-- the records of a trace
abbrev pub trace_records : Version → Recorded → List (List (List ℕ))
trace_records v t = header_record v t.config.n t.config.t ∷ init_record t.config.init ∷ step_records v t.ticks 1 t.steps
    ++ end_record t.last ∷ []

-- the traces that a version has texts of: version 1 those with one step in each tick, version 2 all
abbrev pub HasTextsOf : Version → Recorded → Type 0
HasTextsOf One t = IsOnePerTick t
HasTextsOf Two t = ⊤

-- a text encodes the trace whose records csv reads from it
abbrev pub StandsFor : List ℕ → Recorded → Type 0
StandsFor text t = (v : Version) × HasTextsOf v t × (records_of_text text ≡ trace_records v t)

-- the text of a trace in a version, in canonical form
abbrev pub version_text : Version → Recorded → List ℕ
version_text v t = text_of_records (trace_records v t)

-- its front, with this many of the first steps
abbrev pub begun_text : Version → Recorded → ℕ → List ℕ
begun_text v t count =
    record_line (header_record v t.config.n t.config.t)
    ++ record_line (init_record t.config.init) ++ text_of_records (step_records v t.ticks 1 (take count t.steps))

-- what comes behind it: the other steps, and the end
abbrev pub rest_text : Version → Recorded → ℕ → List ℕ
rest_text v t count =
    text_of_records (step_records v t.ticks (count + 1) (drop count t.steps)) ++ record_line (end_record t.last)

-- the records of the steps behind the first `from`, up to the one of number `to`
abbrev pub steps_text : Version → Recorded → ℕ → ℕ → List ℕ
steps_text v t from to = text_of_records (step_records v t.ticks (from + 1) (take (to - from) (drop from t.steps)))

-- whether numbers count on from this one
abbrev pub counts_from : ℕ → List ℕ → Bool
counts_from at [] = true
counts_from at (x ∷ xs) = (x == at) && counts_from (at + 1) xs

-- whether each step's tick is its number, and the last tick is the number of steps
unfoldable pub is_one_per_tick : Recorded → Bool
is_one_per_tick t = (t.last == length t.steps) && counts_from 1 t.ticks

-- version 1 if it has texts of the trace, else version 2
abbrev pub version_of : Recorded → Version
version_of t = if is_one_per_tick t then One else Two

-- the text of a trace, and that in version 2
abbrev pub trace_text : Recorded → List ℕ
trace_text t = version_text (version_of t) t

abbrev pub trace_text_2 : Recorded → List ℕ
trace_text_2 t = version_text Two t

-- a trace as texts have it: within its limits, with initial values of 64 bits, and well formed
pub record IsTextTrace (t : Recorded) : Type 0 where
  pub setup : IsSetup t.config
  pub values : All (λ v. v < 2 ^ 64) t.config.init
  pub well_formed : IsTrace t
