-- What a command does that reads a text and writes another. What else its clauses cite is passed on from here.
pub use Rattle.std.specs.Io.KnownBytes.{Appends, IsAtEnd}
pub use Rattle.trace_text.specs.ByteLoops.{WasFaultless}
pub use Rattle.trace_text.specs.Faults.{faults_of, inner_of, is_flushed}
pub use Rattle.command_faults.specs.Printing.{IsWriteFault}
use Rattle.std.specs.Prelude.{ℕ, ◌≡◌, ◌≢◌, ◌≤◌, List, length, take, Option, IfSome, Result, MatchResult, IsTrue, ⊤}
use Rattle.step_trace.specs.Traces.{Recorded}
use Rattle.trace_text.specs.declared.counting.Counting.{Counting}
use Rattle.trace_text.specs.declared.refusals.TextError.TheVariants as why
use Rattle.trace_text.specs.Faults.{Rose}
use Rattle.command_faults.specs.declared.faults.Fault.{Fault}
use Rattle.command_faults.specs.declared.faults.Fault.TheVariants as fault
use Rattle.text_commands.specs.Answers.{IsAnswerTo, IsUnanswered}

-- The fault has its cause: the text is refused for it; or a read failed; or the text has an answer, of which that many
-- first bytes were written.
abbrev pub IsServeFault : (List ℕ → List ℕ → Type 0) → (List ℕ → Fault → Type 0) → List ℕ → Option (List ℕ)
    → Option (List ℕ) → Fault → Type 0
IsServeFault Gives Refuses text before after fault.Read = ⊤
IsServeFault Gives Refuses text before after (fault.Write n) = (out : List ℕ) × Gives text out × (n ≤ length out)
    × Appends before after (take n out)
IsServeFault Gives Refuses text before after w = Refuses text w

-- the fault is one of memory, of a reader or of a writer, or one that the command may report
abbrev pub IsFaultOf : (Fault → Type 0) → Fault → Type 0
IsFaultOf May fault.Memory = ⊤
IsFaultOf May fault.Read = ⊤
IsFaultOf May (fault.Write n) = ⊤
IsFaultOf May w = May w

-- What a command that makes a text of a trace may report: a refusal of a trace text, or what some trace is declined
-- for. Out of memory and a failed read are no refusals of a text.
abbrev pub MayTell : (Recorded → Fault → Type 0) → Fault → Type 0
MayTell Declines (fault.Trace reason) = (reason ≢ why.Read) × (reason ≢ why.Memory)
MayTell Declines w = (t : Recorded) × Declines t w

-- if the fault is a failed read, a call of the reader answered a fault; else none did
abbrev pub IsReadFault : ℕ → ℕ → Fault → Type 0
IsReadFault old new fault.Read = Rose old new
IsReadFault old new _ = new ≡ old

-- What was read has an answer, which was written whole and flushed; neither device met a fault. If it is known what was
-- there to be read, that is what was read.
pub record HasServed {R W : Type 0} (Gives : List ℕ → List ℕ → Type 0) (left : R → Option (List ℕ))
    (taken : W → Option (List ℕ))
    (reader read : Counting R) (writer written : Counting W) : Type 0 where
  pub text : List ℕ
  pub out : List ℕ
  pub all : IfSome (left (inner_of reader)) (λ known. text ≡ known)
  pub end : IsAtEnd (left (inner_of read))
  pub gives : Gives text out
  pub whole : Appends (taken (inner_of writer)) (taken (inner_of written)) out
  pub flushed : IsTrue (is_flushed written)
  pub readable : faults_of read ≡ faults_of reader
  pub faultless : WasFaultless writer written

-- The fault has its cause in what was there to be read, if that is known, and the command may report it. It is a failed
-- read or a failed write exactly if a device met a fault.
pub record IsUnserved {R W : Type 0} (Gives : List ℕ → List ℕ → Type 0) (Refuses : List ℕ → Fault → Type 0)
    (May : Fault → Type 0)
    (left : R → Option (List ℕ)) (taken : W → Option (List ℕ)) (reader read : Counting R) (writer written : Counting W)
    (w : Fault) : Type 0 where
  pub cause : IfSome (left (inner_of reader))
      (λ text. IsServeFault Gives Refuses text (taken (inner_of writer)) (taken (inner_of written)) w)
  pub own : IsFaultOf May w
  pub unread : IsReadFault (faults_of reader) (faults_of read) w
  pub unwritten : IsWriteFault writer written w

-- what a command has done that answered so: it has written its answer to a text, or it reported a fault
abbrev pub Serves : {A R W : Type 0} → (List ℕ → List ℕ → Type 0) → (List ℕ → Fault → Type 0) → (Fault → Type 0)
    → (R → Option (List ℕ)) → (W → Option (List ℕ)) → Counting R → Counting R → Counting W → Counting W
    → Result A Fault → Type 0
Serves Gives Refuses May left taken reader read writer written result =
    MatchResult result (λ _. HasServed Gives left taken reader read writer written)
    (IsUnserved Gives Refuses May left taken reader read writer written)

-- the same of a command that makes a text of a trace
abbrev pub ServesTrace : {A R W : Type 0} → (Recorded → List ℕ → Type 0) → (Recorded → Fault → Type 0)
    → (R → Option (List ℕ)) → (W → Option (List ℕ)) → Counting R → Counting R → Counting W → Counting W
    → Result A Fault → Type 0
ServesTrace Gives Declines = Serves (IsAnswerTo Gives) (IsUnanswered Declines) (MayTell Declines)
