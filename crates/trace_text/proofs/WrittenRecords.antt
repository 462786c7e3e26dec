-- What is written of a trace, one part after the other.
use Rattle.std.proofs.Common.{Fits, w64, ℕ, zero, suc, ◌≡◌, ◌+◌, ◌-◌, ◌<◌, ◌≤◌, ◌^◌, ◌∙◌, List, [], ◌∷◌, ◌++◌, length, map, take, drop, get_or, Some, None, refl, sym, ap, arith, decimal, append_assoc}
use Rattle.std.specs.Prelude.{All, slice_get}
use Rattle.std.specs.List.{join_with_byte, flat_map}
use Rattle.std.proofs.Math.Seq.{take-suc}
use Rattle.std.proofs.lemmas.Grind.{flat_map-append}
use Rattle.std.proofs.lemmas.List.{append-nil, drop-drop, drop-take, length-take-le, take-take, take_all}
use Rattle.std.proofs.lemmas.List.Elements.{All-head, All-tail, All-from_get_or}
use Rattle.std.proofs.lemmas.List.Folds.{list_any-append}
use Rattle.std.proofs.lemmas.Option.{none-some, slice_get_past, slice_get_within, slice_get-get_or, get_or_from_slice_get}
use Rattle.step_trace.specs.declared.steps.Act.TheVariants.{Send}
use Rattle.step_trace.specs.declared.steps.Step.{Step}
use Rattle.step_trace.specs.Traces.{Recorded, step_at}
use Rattle.csv.specs.Writing.{needs_byte}
use Rattle.trace_text.specs.Records.{record_line, text_of_records}
use Rattle.trace_text.specs.RecordWriting.{our_writer, IsPlain, ArePlain}
use Rattle.step_trace.specs.Ticks.{tick_at}
use Rattle.trace_text.specs.declared.versions.Version.{Version}
use Rattle.trace_text.specs.TraceTexts.{begun_text, header_record, init_record, rest_text, step_record, step_records, steps_text, end_record, version_text}
use Rattle.trace_text.proofs.AcceptedRecords.{step_records-more}
use Rattle.trace_text.proofs.PlainFields.{IsPlain-decimal}

-- the text of one record more
pub text_of_records-more : (rs : List (List (List ℕ))) (r : List (List ℕ))
    → text_of_records (rs ++ r ∷ []) ≡ text_of_records rs ++ record_line r
text_of_records-more rs r = flat_map-append record_line rs (r ∷ [])
    ∙ ap (λ (t : List ℕ). text_of_records rs ++ t) (append-nil (record_line r))

-- elements behind the first ones
slice_get-drop : {A : Type 0} (xs : List A) (before k : ℕ) → slice_get (drop before xs) k ≡ slice_get xs (before + k)
slice_get-drop xs zero k = let same : zero + k ≡ k = omega arith in rw same refl
slice_get-drop [] (suc before) k = sym (slice_get_past [] (suc before + k) (omega arith))
slice_get-drop (x ∷ xs) (suc before) k = let same : suc before + k ≡ suc (before + k) = omega arith in rw same (slice_get-drop xs before k)

-- the text of some steps behind the first ones, and the record of the next
pub text-step : (v : Version) (ticks : List ℕ) (steps : List Step) (before k : ℕ) (x : Step) → step_at steps (before + k + 1) ≡ Some x
    → text_of_records (step_records v ticks (before + 1) (take (k + 1) (drop before steps))) ≡ text_of_records (step_records v ticks
    (before + 1) (take k (drop before steps))) ++ record_line (step_record v (before + k + 1) (tick_at ticks (before + k + 1)) x)
text-step v ticks steps before k x h =
    let xs : List Step = drop before steps in
    let number : before + k + 1 ≡ suc (before + k) = omega arith in
    let here : slice_get xs k ≡ Some x = slice_get-drop steps before k ∙ (rw number at h) in
    let size : length (take k xs) ≡ k = let within = slice_get_within xs k x here in length-take-le k xs (omega (arith, within)) in
    let at : before + 1 + length (take k xs) ≡ before + k + 1 = omega (arith, size) in
    let place : k + 1 ≡ suc k = omega arith in
    let all : take (k + 1) xs ≡ take k xs ++ x ∷ [] = ap (λ (j : ℕ). take j xs) place
    ∙ take-suc xs k x (slice_get_within xs k x here) ∙ ap (λ (y : Step). take k xs ++ y ∷ []) (get_or_from_slice_get xs k x x here) in
    ap (λ (ys : List Step). text_of_records (step_records v ticks (before + 1) ys)) all
    ∙ ap text_of_records (step_records-more v ticks (before + 1) (take k xs) x)
    ∙ text_of_records-more (step_records v ticks (before + 1) (take k xs))
    (step_record v (before + 1 + length (take k xs)) (tick_at ticks (before + 1 + length (take k xs))) x)
    ∙ ap
    (λ (i : ℕ). text_of_records (step_records v ticks (before + 1) (take k xs)) ++ record_line (step_record v i (tick_at ticks i) x)) at

-- there is a step of each number up to the length
pub some-step : (steps : List Step) (k : ℕ) → k < length steps → step_at steps (k + 1) ≡ None → ⊥
some-step steps k l none =
    let number : k + 1 ≡ suc k = omega arith in
    let d : Step = record { proc = 0; act = Send 0 } in
    none-some (get_or steps k d) (sym (rw number at none) ∙ slice_get-get_or steps k d l)

-- the records of the first steps, and those of the others
step_records-cut : (v : Version) (ticks : List ℕ) (at : ℕ) (xs : List Step) (k : ℕ)
    → step_records v ticks at xs ≡ step_records v ticks at (take k xs) ++ step_records v ticks (at + k) (drop k xs)
step_records-cut v ticks at xs zero = let same : at + zero ≡ at = omega arith in rw same refl
step_records-cut v ticks at [] (suc k) = refl
step_records-cut v ticks at (x ∷ xs) (suc k) =
    let same : at + 1 + k ≡ at + suc k = omega arith in
    ap (λ (rs : List (List (List ℕ))). step_record v at (tick_at ticks at) x ∷ rs) (rw same at (step_records-cut v ticks (at + 1) xs k))

-- numbers with a byte behind each
abbrev pub with_behind : ℕ → List ℕ → List ℕ
with_behind b ns = flat_map (λ n. decimal n ++ b ∷ []) ns

-- numbers with a byte between them: all but the last have it behind them
join-with_behind : (b : ℕ) (ns : List ℕ) (last : ℕ) → join_with_byte b (map decimal (ns ++ last ∷ [])) ≡ with_behind b ns ++ decimal last
join-with_behind b [] last = refl
join-with_behind b (n ∷ []) last = sym (append_assoc (decimal n) (b ∷ []) (decimal last))
    ∙ ap (λ (t : List ℕ). t ++ decimal last) (sym (append-nil (decimal n ++ b ∷ [])))
join-with_behind b (n ∷ m ∷ ns) last =
    ap (λ (t : List ℕ). decimal n ++ (b ∷ t)) (join-with_behind b (m ∷ ns) last)
    ∙ sym (append_assoc (decimal n) (b ∷ []) (with_behind b (m ∷ ns) ++ decimal last))
    ∙ sym (append_assoc (decimal n ++ b ∷ []) (with_behind b (m ∷ ns)) (decimal last))

-- behind a text, the numbers up to a place, and the one at it
pub numbers-turn : (old : List ℕ) (b : ℕ) (ns : List ℕ) (k : ℕ) → k < length ns
    → old ++ with_behind b (take k ns) ++ decimal (get_or ns k 0) ++ b ∷ [] ≡ old ++ with_behind b (take (k + 1) ns)
numbers-turn old b ns k l =
    let place : k + 1 ≡ suc k = omega arith in
    let more : with_behind b (take k ns ++ get_or ns k 0 ∷ []) ≡ with_behind b (take k ns) ++ (decimal (get_or ns k 0) ++ b ∷ []) =
    flat_map-append (λ n. decimal n ++ b ∷ []) (take k ns) (get_or ns k 0 ∷ [])
    ∙ ap (λ (t : List ℕ). with_behind b (take k ns) ++ t) (append-nil (decimal (get_or ns k 0) ++ b ∷ [])) in
    append_assoc (old ++ with_behind b (take k ns)) (decimal (get_or ns k 0)) (b ∷ [])
    ∙ append_assoc old (with_behind b (take k ns)) (decimal (get_or ns k 0) ++ b ∷ [])
    ∙ ap (λ (t : List ℕ). old ++ t) (sym more ∙ ap (with_behind b) (sym (ap (λ (j : ℕ). take j ns) place ∙ take-suc ns k 0 l)))

-- behind a text, all numbers but the last, and the last at the end of a line
pub numbers-end : (old : List ℕ) (b : ℕ) (ns front : List ℕ) (last k : ℕ) → ns ≡ front ++ last ∷ [] → length front ≤ k
    → old ++ with_behind b (take k front) ++ decimal last ++ 10 ∷ [] ≡ old ++ join_with_byte b (map decimal ns) ++ 10 ∷ []
numbers-end old b ns front last k e l = ap (λ (t : List ℕ). t ++ 10 ∷ []) (
    ap (λ (ms : List ℕ). old ++ with_behind b ms ++ decimal last) (take_all k front l)
    ∙ append_assoc old (with_behind b front) (decimal last)
    ∙ ap (λ (t : List ℕ). old ++ t) (sym (ap (λ (ms : List ℕ). join_with_byte b (map decimal ms)) e ∙ join-with_behind b front last)))

-- ids call for no quotes
pub IsPlain-ids : (ns : List ℕ) → All (λ k. k < 2 ^ 64) ns → IsPlain (join_with_byte 32 (map decimal ns))
IsPlain-ids [] small = refl
IsPlain-ids (n ∷ []) small = IsPlain-decimal n (All-head (λ k. k < 2 ^ 64) n [] small)
IsPlain-ids (n ∷ m ∷ ns) small = rw (
  list_any-append (needs_byte our_writer) (decimal n) (32 ∷ join_with_byte 32 (map decimal (m ∷ ns))),
  IsPlain-decimal n (All-head (λ k. k < 2 ^ 64) n (m ∷ ns) small),
) (IsPlain-ids (m ∷ ns) (All-tail (λ k. k < 2 ^ 64) n (m ∷ ns) small))

-- initial values call for none
pub ArePlain-decimals : (ns : List ℕ) → All (λ k. k < 2 ^ 64) ns → ArePlain (map decimal ns)
ArePlain-decimals [] small = tt
ArePlain-decimals (n ∷ ns) small =
    (IsPlain-decimal n (All-head (λ k. k < 2 ^ 64) n ns small), ArePlain-decimals ns (All-tail (λ k. k < 2 ^ 64) n ns small))

-- the text of some records, and that of the others
records-cut : (v : Version) (ticks : List ℕ) (at : ℕ) (xs : List Step) (k : ℕ) → text_of_records (step_records v ticks at xs)
    ≡ text_of_records (step_records v ticks at (take k xs)) ++ text_of_records (step_records v ticks (at + k) (drop k xs))
records-cut v ticks at xs k = ap text_of_records (step_records-cut v ticks at xs k)
    ∙ flat_map-append record_line (step_records v ticks at (take k xs)) (step_records v ticks (at + k) (drop k xs))

-- the text of the first steps, and that of the others
text-cut : (v : Version) (t : Recorded) (k : ℕ) → text_of_records (step_records v t.ticks 1 t.steps)
    ≡ text_of_records (step_records v t.ticks 1 (take k t.steps)) ++ text_of_records (step_records v t.ticks (k + 1) (drop k t.steps))
text-cut v t k = let same : 1 + k ≡ k + 1 = omega arith in rw same at (records-cut v t.ticks 1 t.steps k)

-- the parts of a trace's text
pub version_text-parts : (v : Version) (t : Recorded) (k : ℕ) → begun_text v t k ++ rest_text v t k ≡ version_text v t
version_text-parts v t k =
    let header = record_line (header_record v t.config.n t.config.t) in
    let init = record_line (init_record t.config.init) in
    let first = text_of_records (step_records v t.ticks 1 (take k t.steps)) in
    let others = text_of_records (step_records v t.ticks (k + 1) (drop k t.steps)) in
    let end = record_line (end_record t.last) in
    append_assoc (header ++ init) first (others ++ end)
    ∙ append_assoc header init (first ++ (others ++ end))
    ∙ ap (λ (text : List ℕ). header ++ (init ++ text)) (sym (append_assoc first others end)
    ∙ ap (λ (text : List ℕ). text ++ end) (sym (text-cut v t k))
    ∙ sym (text_of_records-more (step_records v t.ticks 1 t.steps) (end_record t.last)))

-- the front with the first steps up to a place, and the next ones
pub begun_text-parts : (v : Version) (t : Recorded) (k m : ℕ) → begun_text v t k ++ steps_text v t k (k + m) ≡ begun_text v t (k + m)
begun_text-parts v t k m =
    let header = record_line (header_record v t.config.n t.config.t) in
    let init = record_line (init_record t.config.init) in
    let first = text_of_records (step_records v t.ticks 1 (take k t.steps)) in
    let so_many : k + m - k ≡ m = omega arith in
    let same : 1 + k ≡ k + 1 = omega arith in
    let cut : text_of_records (step_records v t.ticks 1 (take (k + m) t.steps)) ≡ first ++ steps_text v t k (k + m) =
    rw (so_many, ← same, ← drop-take k m t.steps, ← take-take k (k + m) t.steps (omega arith))
    (records-cut v t.ticks 1 (take (k + m) t.steps) k) in
    append_assoc (header ++ init) first (steps_text v t k (k + m)) ∙ ap (λ (text : List ℕ). (header ++ init) ++ text) (sym cut)

-- the next steps up to a place, and what comes behind them
pub rest_text-parts : (v : Version) (t : Recorded) (k m : ℕ) → steps_text v t k (k + m) ++ rest_text v t (k + m) ≡ rest_text v t k
rest_text-parts v t k m =
    let so_many : k + m - k ≡ m = omega arith in
    let place : k + 1 + m ≡ k + m + 1 = omega arith in
    let end = record_line (end_record t.last) in
    let others = text_of_records (step_records v t.ticks (k + m + 1) (drop (k + m) t.steps)) in
    let cut : text_of_records (step_records v t.ticks (k + 1) (drop k t.steps)) ≡ steps_text v t k (k + m) ++ others =
    rw (so_many, ← place, ← drop-drop m k t.steps) (records-cut v t.ticks (k + 1) (drop k t.steps) m) in
    sym (append_assoc (steps_text v t k (k + m)) others end) ∙ ap (λ (text : List ℕ). text ++ end) (sym cut)

-- numbers of 64 bits, one by one
pub All-fit : (ns : List ℕ) → ((i : ℕ) → Fits w64 (get_or ns i 0)) → All (λ k. k < 2 ^ 64) ns
All-fit ns fits = All-from_get_or (λ k. k < 2 ^ 64) ns 0 (λ i l. let f = fits i in omega (arith, f))
