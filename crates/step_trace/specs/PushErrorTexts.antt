-- The reasons against a step, in words (own).
use Rattle.std.specs.Prelude.{ℕ, List, ◌++◌, codes, decimal}
use Rattle.step_trace.specs.declared.traces.PushError.{PushError}
use Rattle.step_trace.specs.declared.traces.PushError.TheVariants.{Full, BadTick, BadProc, ProcOrder, BadDest}
use Rattle.step_trace.specs.declared.traces.PushError.TheVariants.{IdsNotRising, UnknownMessage, NotAddressed, SameTick}
use Rattle.step_trace.specs.declared.traces.PushError.TheVariants.{Redelivered, Memory}

-- what each reason prints; a message is named by its id in decimal digits
abbrev pub push_error_text : PushError → List ℕ
push_error_text Full = codes "trace is full"
push_error_text BadTick = codes "bad tick"
push_error_text BadProc = codes "no such processor"
push_error_text ProcOrder = codes "processors do not rise"
push_error_text BadDest = codes "no such destination"
push_error_text IdsNotRising = codes "ids do not rise"
push_error_text (UnknownMessage id) = codes "message " ++ decimal id ++ codes " unknown"
push_error_text (NotAddressed id) = codes "message " ++ decimal id ++ codes " is for another processor"
push_error_text (SameTick id) = codes "message " ++ decimal id ++ codes " was sent in this tick"
push_error_text (Redelivered id) = codes "message " ++ decimal id ++ codes " was received before"
push_error_text Memory = codes "out of memory"
