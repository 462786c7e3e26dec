-- The columns of a report: the name of each, its entry for a row, and the row that entries make.
use Rattle.std.specs.Prelude.{ℕ, ◌<◌, List, [], ◌∷◌, Option, Some, None, IfSome}
use Rattle.std.specs.Prelude.{Result, Err, codes, decimal, option_map}
use Rattle.std.specs.Option.{ok_or}
use Rattle.step_trace.specs.declared.rows.Miss.{Miss}
use Rattle.step_trace.specs.declared.rows.Gap.{Gap}
use Rattle.step_trace.specs.declared.rows.Row.{Row}
use Rattle.front.specs.declared.refusals.ReportError.{ReportError}
use Rattle.front.specs.declared.refusals.ReportError.TheVariants.{BadNumber, HalfWitness}

-- their names
abbrev pub report_header : List (List ℕ)
report_header = codes "gst" ∷ codes "delta" ∷ codes "phi" ∷ codes "sent" ∷ codes "missed" ∷ codes "proc" ∷ codes "from"
    ∷ codes "to" ∷ []

-- the entry of a row for each: a number, or nothing if the row has no such witness
abbrev pub entries_of : Row → List (Option ℕ)
entries_of r =
    Some r.gst ∷ Some r.delta ∷ Some r.phi ∷ option_map (λ m. m.sent) r.miss ∷ option_map (λ m. m.missed) r.miss
    ∷ option_map (λ w. w.proc) r.gap ∷ option_map (λ w. w.from) r.gap ∷ option_map (λ w. w.to) r.gap ∷ []

-- a miss of both numbers, or none if both are empty
abbrev pub miss_of : Option ℕ → Option ℕ → Option (Option Miss)
miss_of None None = Some None
miss_of (Some sent) (Some missed) = Some (Some (record { sent = sent; missed = missed }))
miss_of None (Some missed) = None
miss_of (Some sent) None = None

-- a gap of all three numbers, or none if all are empty
abbrev pub gap_of : Option ℕ → Option ℕ → Option ℕ → Option (Option Gap)
gap_of None None None = Some None
gap_of (Some proc) (Some from) (Some to) = Some (Some (record { proc = proc; from = from; to = to }))
gap_of None None (Some to) = None
gap_of None (Some from) to = None
gap_of (Some proc) None to = None
gap_of (Some proc) (Some from) None = None

-- the row of these bounds, if its witnesses are whole
abbrev pub with_witnesses : ℕ → ℕ → ℕ → Option (Option Miss) → Option (Option Gap) → Option Row
with_witnesses gst delta phi (Some miss) (Some gap) =
    Some (record { gst = gst; delta = delta; phi = phi; miss = miss; gap = gap })
with_witnesses gst delta phi (Some miss) None = None
with_witnesses gst delta phi None gap = None

-- the row of entries, which is to have this number; None denotes a field that is neither empty nor a number
abbrev pub row_of_entries : ℕ → List (Option (Option ℕ)) → Result Row ReportError
row_of_entries at (Some (Some gst) ∷ Some (Some delta) ∷ Some (Some phi) ∷ Some sent ∷ Some missed ∷ Some proc
    ∷ Some from ∷ Some to ∷ []) =
    ok_or (with_witnesses gst delta phi (miss_of sent missed) (gap_of proc from to)) (HalfWitness at)
row_of_entries at _ = Err (BadNumber at)

-- the text of a field
abbrev pub entry_text : Option ℕ → List ℕ
entry_text None = []
entry_text (Some n) = decimal n

-- the numbers are below a limit
abbrev pub AreBelow : ℕ → List (Option ℕ) → Type 0
AreBelow limit [] = Unit {0}
AreBelow limit (entry ∷ rest) = IfSome entry (λ n. n < limit) × AreBelow limit rest
