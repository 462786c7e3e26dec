-- What the table gives for a text: what it accepts encodes the trace, and what encodes a trace is accepted.
use Rattle.std.proofs.Common.{ℕ, ◌≡◌, ◌≢◌, ◌≤◌, ◌∙◌, List, length, Result, Ok, Err, Bool, true, false, refl, ap, arith}
use Rattle.std.specs.Prelude.{IfOk, IfErr, MatchResult, MatchBool, ⊤, nat_le}
use Rattle.std.proofs.lemmas.Bool.Decides.{nat_tests}
use Rattle.step_trace.specs.Traces.{Recorded}
use Rattle.trace_text.specs.declared.byte_loops.TheConstants.{MAX_TEXT_BYTES}
use Rattle.trace_text.specs.declared.refusals.TextError.{TextError}
use Rattle.trace_text.specs.declared.refusals.TextError.TheVariants as why
use Rattle.trace_text.specs.Records.{records_of_text}
use Rattle.trace_text.specs.TraceTexts.{StandsFor, IsTextTrace}
use Rattle.trace_text.specs.TextRefusals.{Gives, IsFirstRefusal, trace_of_records, trace_of_text, is_memory}
use Rattle.trace_text.proofs.AcceptedRecords.{accepted-records}
use Rattle.trace_text.proofs.TableReasons.{is_of_records, never-answered}
use Rattle.trace_text.proofs.TraceRecords.{reads-trace}

-- an accepted text encodes its trace
pub gives-stands : (text : List ℕ) (r : Result Recorded TextError)
    → Gives r (trace_of_records (records_of_text text)) → IfOk r (λ t. StandsFor text t)
gives-stands text (Ok t) h = (accepted-records (records_of_text text) t h).1
gives-stands text (Err e) h = tt

pub gives-sound : (text : List ℕ) (r : Result Recorded TextError)
    → Gives r (trace_of_records (records_of_text text)) → IfOk r (λ t. IsTextTrace t)
gives-sound text (Ok t) h = (accepted-records (records_of_text text) t h).0
gives-sound text (Err e) h = tt

-- what encodes a trace gives it
stands-gives : (text : List ℕ) (t : Recorded) → IsTextTrace t → StandsFor text t → trace_of_records (records_of_text text) ≡ Ok t
stands-gives text t h s = ap trace_of_records s.2 ∙ reads-trace s.0 t h s.1

only_memory : (e : TextError) (t : Recorded) (table : Result Recorded TextError)
    → table ≡ Ok t → MatchBool (is_memory e) ⊤ (table ≡ Err e) → e ≡ why.Memory
only_memory why.Memory t table h k = refl
only_memory why.TooLarge t table h k = cc (h, k)
only_memory why.Read t table h k = cc (h, k)
only_memory why.BadHeader t table h k = cc (h, k)
only_memory why.BadVersion t table h k = cc (h, k)
only_memory why.BadSize t table h k = cc (h, k)
only_memory why.BadInit t table h k = cc (h, k)
only_memory (why.BadFields n) t table h k = cc (h, k)
only_memory (why.WrongNumber n) t table h k = cc (h, k)
only_memory (why.BadOp n) t table h k = cc (h, k)
only_memory (why.BadNumber n) t table h k = cc (h, k)
only_memory (why.BadStep n r) t table h k = cc (h, k)
only_memory why.NoEnd t table h k = cc (h, k)
only_memory why.WrongEnd t table h k = cc (h, k)
only_memory why.AfterEnd t table h k = cc (h, k)

pub gives-complete : (text : List ℕ) (r : Result Recorded TextError) (t : Recorded) → Gives r (trace_of_records (records_of_text text))
    → IsTextTrace t → StandsFor text t → MatchResult r (λ u. u ≡ t) (λ e. e ≡ why.Memory)
gives-complete text (Ok u) t h i s = let k = stands-gives text t i s in cc
gives-complete text (Err e) t h i s = only_memory e t (trace_of_records (records_of_text text)) (stands-gives text t i s) h

-- a text encodes at most one trace
pub stands-one : (text : List ℕ) (t u : Recorded) → IsTextTrace t → IsTextTrace u → StandsFor text t → StandsFor text u → t ≡ u
stands-one text t u h k s r = let a = stands-gives text t h s in let b = stands-gives text u k r in cc

first-refusal : (m : Bool) (P Q R : Type 0) → R → (P → Q) → MatchBool m ⊤ P → MatchBool m R Q
first-refusal true P Q R r f h = r
first-refusal false P Q R r f h = f h

-- a refusal of a text that isn't too large is the first of the table
pub gives-refused : (text : List ℕ) (r : Result Recorded TextError)
    → length text ≤ MAX_TEXT_BYTES → Gives r (trace_of_records (records_of_text text)) → IfErr r (λ e. IsFirstRefusal text e)
gives-refused text (Ok t) l h = tt
gives-refused text (Err e) l h =
    let short : nat_le (length text) MAX_TEXT_BYTES ≡ true = grind (arith, nat_tests) in
    first-refusal (is_memory e) (trace_of_records (records_of_text text) ≡ Err e)
    (trace_of_text text ≡ Err e) (length text ≤ MAX_TEXT_BYTES) l (λ k. rw short k) h

-- a reason that records don't give isn't answered
pub gives-never : (text : List ℕ) (r : Result Recorded TextError) (f : TextError) → is_of_records f ≡ false
    → is_memory f ≡ false → Gives r (trace_of_records (records_of_text text)) → IfErr r (λ e. e ≢ f)
gives-never text (Ok t) f other unless h = tt
gives-never text (Err e) f other unless h = never-answered (records_of_text text) e f other unless h

pub gives-not_large : (text : List ℕ) (r : Result Recorded TextError)
    → Gives r (trace_of_records (records_of_text text)) → r ≡ Err why.TooLarge → ⊥
gives-not_large text (Ok t) h e = cc e
gives-not_large text (Err f) h e = never-answered (records_of_text text) f why.TooLarge refl refl h cc
