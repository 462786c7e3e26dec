-- The text of a report is shorter than a text may be. Its rows are no more than the ticks, and their
-- numbers have at most seven digits.
use Rattle.std.proofs.Common.{ℕ, ◌≡◌, ◌+◌, ◌*◌, ◌<◌, ◌≤◌, ◌^◌, List, [], ◌∷◌, length, map, get_or, Option, Some, None, IsTrue, ◌&&◌, Contains, option_map, refl, subst, suc, zero, arith, length-append}
use Rattle.std.specs.Prelude.{nat_le, nat_lt}
use Rattle.std.specs.List.Sorted.{IsStrictlyIncreasing}
use Rattle.std.proofs.lemmas.Bool.{and_parts, leb-true}
use Rattle.std.proofs.lemmas.List.Elements.{Contains-get_or}
use Rattle.std.proofs.lemmas.List.{length-map}
use Rattle.step_trace.specs.Traces.{Recorded}
use Rattle.step_trace.specs.Ticks.{IsTrace}
use Rattle.step_trace.specs.declared.rows.Miss.{Miss}
use Rattle.step_trace.specs.declared.rows.Gap.{Gap}
use Rattle.step_trace.specs.declared.rows.Row.{Row}
use Rattle.step_trace.specs.Processors.{has_proc}
use Rattle.step_trace.specs.Witnesses.{NamesMiss, NamesGap}
use Rattle.step_trace.specs.Fronts.{IsReport, IsReportRow}
use Rattle.step_trace.proofs.StepPositions.{step_at_within}
use Rattle.trace_text.specs.Records.{record_line, text_of_records}
use Rattle.front.specs.Columns.{AreBelow, entries_of, entry_text, report_header}
use Rattle.front.specs.ReportTexts.{report_text, row_record}
use Rattle.trace_text.proofs.LineLengths.{bytes_of, length-line, short-decimal}
use Rattle.step_trace.proofs.ListMembers.{Contains-head, Contains-rest, Contains-from_map}

bytes_of-short : (entries : List (Option ℕ)) → AreBelow (10 ^ 7) entries → bytes_of (map entry_text entries) ≤ 7 * length entries
bytes_of-short [] short = omega arith
bytes_of-short (None ∷ rest) short = let more = bytes_of-short rest short.1 in omega (arith, more)
bytes_of-short (Some n ∷ rest) short = let one = short-decimal n short.0 in
    let more = bytes_of-short rest short.1 in omega (arith, one, more)

member_high : (members p : ℕ) → IsTrue (has_proc members p) → p ≤ 64
member_high members p m =
    let range = (and_parts (nat_lt 0 p && nat_le p 64) _ m).0 in
    leb-true p 64 (and_parts (nat_lt 0 p) _ range).1

-- the numbers of a witness, and its bound
record IsShortBeside (d : ℕ) (entries : List (Option ℕ)) : Type 0 where
  bound : d < 10 ^ 7
  short : AreBelow (10 ^ 7) entries

short-miss : (members : ℕ) (trace : Recorded) (g d : ℕ) (o : Option Miss) → IsTrace trace → NamesMiss members trace g d o
    → IsShortBeside d (option_map (λ m. m.sent) o ∷ option_map (λ m. m.missed) o ∷ [])
short-miss members trace g d None sound named = record { bound = omega (arith, named); short = (tt, (tt, tt)) }
short-miss members trace g d (Some m) sound named =
    let miss = named.1.miss in
    let limit : length trace.steps ≤ 1000000 = sound.steps.short in
    let end : trace.last ≤ 1000000 = sound.time.end in
    let late = (sound.time.inside m.missed _ miss.receive.step).1 in
    let long = named.1.long in
    let sent = step_at_within trace.steps m.sent _ miss.message.sent in
    let missed = step_at_within trace.steps m.missed _ miss.receive.step in
    record { bound = omega (arith, end, long, late); short = (omega (arith, limit, sent), (omega (arith, limit, missed), tt)) }

short-gap : (members : ℕ) (trace : Recorded) (g f : ℕ) (o : Option Gap) → IsTrace trace → NamesGap members trace g f o
    → IsShortBeside f (option_map (λ w. w.proc) o ∷ option_map (λ w. w.from) o ∷ option_map (λ w. w.to) o ∷ [])
short-gap members trace g f None sound named = record { bound = omega (arith, named); short = (tt, (tt, (tt, tt))) }
short-gap members trace g f (Some w) sound named =
    let limit : trace.last ≤ 1000000 = sound.time.end in
    let gap = named.1.gap in
    let long = named.1.long in
    let inside = gap.inside in
    let order = gap.order in
    let proc = member_high members w.proc gap.member in
    record {
      bound = omega (arith, limit, long, inside);
      short = (omega (arith, proc), (omega (arith, limit, order, inside), (omega (arith, limit, inside), tt)));
    }

length-row_line : (members : ℕ) (trace : Recorded) (r : Row)
    → IsTrace trace → IsReportRow members trace r → length (record_line (row_record r)) ≤ 65
length-row_line members trace r sound row =
    let limit : trace.last ≤ 1000000 = sound.time.end in
    let miss = short-miss members trace r.gst r.delta r.miss sound row.miss in
    let gap = short-gap members trace r.gst r.phi r.gap sound row.gap in
    let end = row.front.feasible.end in
    let bytes = bytes_of-short (entries_of r)
    (omega (arith, limit, end), (miss.bound, (gap.bound, (miss.short.0, (miss.short.1.0, gap.short))))) in
    let line = length-line (row_record r) in
    omega (arith, line, bytes)

length-lines : (rows : List Row) → ((r : Row) → Contains rows r → length (record_line (row_record r)) ≤ 65)
    → length (text_of_records (map row_record rows)) ≤ 65 * length rows
length-lines [] short = omega arith
length-lines (r ∷ rows) short =
    let line = short r (Contains-head r rows) in
    let more = length-lines rows (λ s c. short s (Contains-rest r s rows c)) in
    rw (length-append (record_line (row_record r)) (text_of_records (map row_record rows))) (omega (arith, line, more))

-- positive numbers that rise
rising-at : (ns : List ℕ) → IsStrictlyIncreasing ns → ((n : ℕ) → Contains ns n → 1 ≤ n) → (k : ℕ) → k < length ns → k < get_or ns k 0
rising-at ns rising positive zero inside = let first = positive (get_or ns 0 0) (Contains-get_or ns 0 0 inside) in omega (arith, first)
rising-at ns rising positive (suc k) inside =
    let before = rising-at ns rising positive k (omega arith) in
    let step = subst (λ (j : ℕ). get_or ns k 0 < get_or ns j 0) (let next : k + 1 ≡ suc k = omega arith in next) (rising k (omega arith)) in
    omega (arith, before, step)

-- a report has no more rows than the trace has ticks
length-rows : (members : ℕ) (trace : Recorded) (rows : List Row) → IsReport members trace rows → length rows ≤ trace.last
length-rows members trace [] report = omega arith
length-rows members trace (r ∷ rest) report =
    let numbers = map (λ (row : Row). row.gst) (r ∷ rest) in
    let size : length numbers ≡ suc (length rest) = length-map (r ∷ rest) (λ (row : Row). row.gst) in
    let feasible = λ (n : ℕ) (c : Contains numbers n).
    let row = Contains-from_map (λ (row : Row). row.gst) (r ∷ rest) n c in
    let is = row.2 in
    let start = (report.sound row.0 row.1).front.feasible.start in
    let end = (report.sound row.0 row.1).front.feasible.end in
    let both : (1 ≤ n) × (n ≤ trace.last) = (omega (arith, is, start), omega (arith, is, end)) in both in
    let above = rising-at numbers report.rising (λ n c. (feasible n c).0) (length rest) (omega (arith, size)) in
    let last = (feasible (get_or numbers (length rest) 0) (Contains-get_or numbers (length rest) 0 (omega (arith, size)))).1 in
    omega (arith, above, last)

-- the text of a report is shorter than 64 MiB
pub short-report_text : (members : ℕ) (trace : Recorded) (rows : List Row)
    → IsTrace trace → IsReport members trace rows → length (report_text rows) < 67108864
short-report_text members trace rows sound report =
    let limit : trace.last ≤ 1000000 = sound.time.end in
    let lines = length-lines rows (λ r c. length-row_line members trace r sound (report.sound r c)) in
    let count = length-rows members trace rows report in
    let header : length (record_line report_header) ≡ 39 = refl in
    rw (length-append (record_line report_header) (text_of_records (map row_record rows))) (omega (arith, lines, count, header, limit))
