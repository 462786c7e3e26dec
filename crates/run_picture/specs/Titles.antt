-- What marks say of themselves (own). A step, a message or a node is called as by `Words` and `MarkWords`; a step has
-- its number, its record in the log, its tick and its time, as far as they are known.
use Rattle.std.specs.Prelude.{ℕ, ◌++◌, Bool, List, [], ◌∷◌, Option, Some, None, codes, decimal, if◌then◌else◌, map}
use Rattle.step_tables.specs.Told.{Said}
use Rattle.step_trace.specs.declared.rows.Gap.{Gap}
use Rattle.run_words.specs.Words.{message_text, node_text}
use Rattle.run_picture.specs.MarkWords.{bound_text, ids_text, made_text, step_at_text, timed_text}
use Rattle.run_words.specs.declared.clocks.Clock.{Clock}
use Rattle.run_picture.specs.declared.titles.Made.{Made}
use Rattle.run_picture.specs.declared.mark_words.Words.{Words}

-- what the processors are called, and what a table says about the steps
abbrev pub names_in : Words → List (List ℕ)
names_in w = map (λ x. x.now) w.names.now

abbrev pub said_in : Words → List Said
said_in w = w.said.now

-- whose step this is, and when it is made
abbrev pub subject_text : Words → Made → List ℕ
subject_text w k = made_text (said_in w) w.clock k.no k.tick ++ (codes ": " ++ node_text (names_in w) k.processor)

-- the step is a Send to q
abbrev pub send_title : Words → Made → ℕ → List ℕ
send_title w k q =
    subject_text w k
    ++ (codes " sends message " ++ (message_text (said_in w) k.no ++ (codes " to " ++ node_text (names_in w) q)))

-- the step is a Receive, which takes these messages
abbrev pub ending_text : Bool → List ℕ
ending_text ends = if ends then codes " and ends its round" else []

abbrev pub receive_title : Words → Made → Bool → List ℕ → List ℕ
receive_title w k ends ids = subject_text w k ++ (codes " receives " ++ (ids_text (said_in w) ids ++ ending_text ends))

-- message s from p to q
unfoldable pub way_text : Words → ℕ → ℕ → ℕ → List ℕ
way_text w s p q =
    codes "message "
    ++ (message_text (said_in w) s
    ++ (codes " from " ++ (node_text (names_in w) p ++ (codes " to " ++ node_text (names_in w) q))))

-- by which step it is sent
unfoldable pub sent_text : List Said → Option Clock → Made → List ℕ
sent_text said clock k = codes ": sent at " ++ (made_text said clock k.no k.tick ++ codes ", ")

-- by which step it is received, if it is, in tick t
abbrev pub received_text : List Said → Option Clock → Option ℕ → ℕ → List ℕ
received_text said clock None t = codes "never received"
received_text said clock (Some k) t = codes "received at " ++ made_text said clock k t

-- the message that this step sends to q, and is received so
abbrev pub message_title : Words → Made → ℕ → Option ℕ → ℕ → List ℕ
message_title w k q taken t =
    way_text w k.no k.processor q ++ (sent_text (said_in w) w.clock k ++ received_text (said_in w) w.clock taken t)

-- the bounds that hold from tick g on
abbrev pub delta_text : Option Clock → ℕ → ℕ → List ℕ
delta_text clock g n = (206 ∷ 148 ∷ []) ++ (codes "(" ++ (decimal g ++ (codes ") = " ++ bound_text clock n)))

abbrev pub phi_text : Option Clock → ℕ → ℕ → List ℕ
phi_text clock g n = (206 ∷ 166 ∷ []) ++ (codes "(" ++ (decimal g ++ (codes ") = " ++ bound_text clock n)))

-- which step misses it
unfoldable pub missing_text : List Said → Option Clock → Made → List ℕ
missing_text said clock k = codes " was not yet received at " ++ (step_at_text said clock k.no k.tick ++ codes ": ")

-- the step misses message s of p, so from tick g on no communication bound is less than n
abbrev pub miss_title : Words → Made → ℕ → ℕ → ℕ → ℕ → List ℕ
miss_title w k s p g n =
    way_text w s p k.processor ++ (missing_text (said_in w) w.clock k ++ delta_text w.clock g n)

-- a processor takes no step in these ticks, so from tick g on no processor bound is less than n
abbrev pub gap_title : Words → Gap → ℕ → ℕ → List ℕ
gap_title w gap g n =
    node_text (names_in w) gap.proc
    ++ (codes " takes no step from "
    ++ (timed_text w.clock gap.from
    ++ (codes " to " ++ (timed_text w.clock gap.to ++ (codes ": " ++ phi_text w.clock g n)))))

-- both bounds that hold from tick g on
abbrev pub delta_is : List ℕ
delta_is = 32 ∷ 111 ∷ 110 ∷ 58 ∷ 32 ∷ 206 ∷ 148 ∷ 32 ∷ 61 ∷ 32 ∷ []

abbrev pub phi_is : List ℕ
phi_is = 44 ∷ 32 ∷ 206 ∷ 166 ∷ 32 ∷ 61 ∷ 32 ∷ []

abbrev pub corner_title : Option Clock → ℕ → ℕ → ℕ → List ℕ
corner_title clock g delta phi = codes "from "
    ++ (timed_text clock g ++ (delta_is ++ (bound_text clock delta ++ (phi_is ++ bound_text clock phi))))

-- a strip has the steps of processor p in all ticks
abbrev pub strip_title : Words → ℕ → List ℕ
strip_title w p = codes "all steps of " ++ node_text (names_in w) p
