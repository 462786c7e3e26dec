-- Why a log is refused: for its text, for options that don't fit its times, or for its events.
use Rattle.std.proofs.Common.{◌≡◌, ◌<◌, ◌≤◌, ◌⊎◌, ℕ, List, length, Bool, true, false, Option, Some, None, Result, Ok, Err, inl, inr, refl, arith, if◌then◌else◌}
use Rattle.std.specs.Prelude.{nat_le, option_map, ⊤, MatchBool}
use Rattle.std.specs.Borrow.{Bor}
use Rattle.std.proofs.lemmas.Bool.{leb-true}
use Rattle.std.proofs.lemmas.Bool.Decides.{nat_tests}
use Rattle.timed_events.specs.declared.events.Event.{Event}
use Rattle.trace_text.specs.declared.byte_loops.TheConstants.{MAX_TEXT_BYTES}
use Rattle.event_log.specs.declared.options.Options.{Options}
use Rattle.event_log.specs.declared.refusals.LogError.{LogError}
use Rattle.event_log.specs.declared.refusals.LogError.TheVariants.{TooLarge, Memory}
use Rattle.event_log.specs.Alignments.{IsAlignRefusal, IsUnalignedFor}
use Rattle.event_log.specs.Imports.{IsLogRefusal, IsUnaligned, IsUnfit, IsUntimed}
use Rattle.event_log.specs.ReadLogs.{IsRead, IsReadRefusal}
use Rattle.event_log.specs.Logs.{SeenLog}
use Rattle.event_log.specs.Naming.{is_memory}

-- any refusal but out of memory
refusal-unless_memory : (o : Options) (text : List ℕ) (why : LogError)
    → (is_memory why ≡ false → IsRead o text (Err why)
    ⊎ (IsUnfit o text why ⊎ (IsUnaligned o text why ⊎ IsUntimed o text why))) → IsLogRefusal o text why
refusal-unless_memory o text Memory f = tt
refusal-unless_memory o text why f = f refl

due : (P : Type 0) (t : Bool) → t ≡ false → MatchBool t ⊤ P → P
due P true n h = absurd (cc)
due P false n h = h

pub untimed-refusal : (o : Options) (text : List ℕ) (why : LogError) (Unmade : Type 0)
    → MatchBool (is_memory why) ⊤ Unmade → (Unmade → IsUntimed o text why) → IsLogRefusal o text why
untimed-refusal o text why Unmade h f = refusal-unless_memory o text why (λ n. inr (inr (inr (f (due Unmade (is_memory why) n h)))))

pub unaligned-refusal : (o : Options) (text : List ℕ) (nodes : List (List ℕ)) (events : List Event) (why : LogError)
    → IsAlignRefusal text nodes events why → (IsUnalignedFor text nodes events why → IsUnaligned o text why)
    → IsLogRefusal o text why
unaligned-refusal o text nodes events why h f = refusal-unless_memory o text why
    (λ n. inr (inr (inl (f (due (IsUnalignedFor text nodes events why) (is_memory why) n h)))))

pub read-refusal : (o : Options) (text : List ℕ) (why : LogError) → IsReadRefusal o text why → IsLogRefusal o text why
read-refusal o text why h = refusal-unless_memory o text why (λ n. inl (due (IsRead o text (Err why)) (is_memory why) n h))

pub unfit-refusal : (o : Options) (text : List ℕ) (why : LogError) → IsUnfit o text why → IsLogRefusal o text why
unfit-refusal o text why h = refusal-unless_memory o text why (λ n. inr (inl h))

-- listed nodes, as lent
lent : (nodes : Option (List (List ℕ))) → (lent : Option (Bor (List (List ℕ)))) × (option_map (λ n. n.now) lent ≡ nodes)
lent None = (None, refl)
lent (Some nodes) = (Some (record { ref_ptr = (0, 0); now = nodes }), refl)

small-by : {A : Type 0} (t : Bool) (n m : ℕ) (read : Result A LogError) (x : A)
    → nat_le n m ≡ t → (if t then read else Err TooLarge) ≡ Ok x → n ≤ m
small-by true n m read x e h = leb-true n m e
small-by false n m read x e h = absurd (cc)

-- a text whose events are read isn't too large
pub read-small : (o : Options) (text : List ℕ) (log : SeenLog) → IsRead o text (Ok log) → length text ≤ MAX_TEXT_BYTES
read-small o text log h = small-by (nat_le (length text) MAX_TEXT_BYTES) (length text) MAX_TEXT_BYTES _ log refl h.staged

-- a text that is too large is refused for that
pub large-text : (o : Options) (text : List ℕ) → MAX_TEXT_BYTES < length text → IsRead o text (Err TooLarge)
large-text o text h =
    let e : nat_le (length text) MAX_TEXT_BYTES ≡ false = grind (arith, nat_tests) in
    let listed = lent o.nodes in
    record { listed = listed.0; same = listed.1; staged = rw e refl }
