-- Silences that ended before the seam neither go on nor are reached.
use Rattle.std.proofs.Common.{ℕ, ◌≡◌, ◌<◌, ◌≤◌, ◌++◌, inl, inr, List, [], ◌∷◌, get_or, take, drop, map, filter, find, not, Bool, true, cond, Some, Contains, refl, sym, ap, ap₂, subst, ◌∙◌, arith}
use Rattle.std.specs.Prelude.{nat_lt}
use Rattle.std.specs.List.Sorted.{IsPartitionedBy}
use Rattle.std.proofs.lemmas.Bool.{cases_eq, ltb-true, lt-ltb}
use Rattle.std.proofs.lemmas.List.{take-append-drop}
use Rattle.step_trace.specs.declared.rows.Gap.{Gap}
use Rattle.step_trace.proofs.ListMembers.{Contains-head, Contains-rest}
use Rattle.chunk_join.specs.Summaries.{Rises, EndsBefore}
use Rattle.chunk_join.specs.Parts.{meets, stops, reach_back, from_seam}
use Rattle.chunk_join.specs.Laws.Listings.{none_any}
use Rattle.chunk_join.specs.Laws.SilencesJoined.{meets-early}
use Rattle.chunk_join.proofs.Places.{Rises-at}

ends_no_later : (a b : Gap) → EndsBefore a b → a.to ≤ b.to
ends_no_later a b h = grind (arith, h)

-- silences in order are parted by their ends
pub parted_by_end : (silent : List Gap) (seam : ℕ) → Rises EndsBefore silent → IsPartitionedBy (λ w. nat_lt w.to seam) silent
parted_by_end silent seam r i j d l h e = elim (cases_eq i j) [
  | inl same ↦ subst (λ k. nat_lt (get_or silent k d).to seam ≡ true) (sym same) e
  | inr other ↦ lt-ltb (get_or silent i d).to seam
      (let a = ends_no_later (get_or silent i d) (get_or silent j d)
      (Rises-at EndsBefore silent i j d r (omega (arith, l, other)) h) in
      omega (arith, a, ltb-true (get_or silent j d).to seam e))
]

-- one that ended before doesn't go on
ended_stops : (seam : ℕ) (right : List Gap) (w : Gap) → w.to < seam → stops seam right w ≡ true
ended_stops seam right w l = ap not (none_any (λ v. meets seam w v) right (λ v. meets-early seam w v l))

-- so a filter keeps them, and a search passes over them
filter_past : (seam : ℕ) (right first rest : List Gap)
    → ((w : Gap) → Contains first w → w.to < seam) → filter (stops seam right) (first ++ rest) ≡ first ++ filter (stops seam right) rest
filter_past seam right [] rest h = refl
filter_past seam right (w ∷ first) rest h =
    let e = ended_stops seam right w (h w (Contains-head w first)) in
    ap (λ (b : Bool). cond b (w ∷ filter (stops seam right) (first ++ rest)) (filter (stops seam right) (first ++ rest))) e
    ∙ ap (λ ys. w ∷ ys) (filter_past seam right first rest (λ x k. h x (Contains-rest w x first k)))

find_past_ended : (seam : ℕ) (v : Gap) (first rest : List Gap)
    → ((w : Gap) → Contains first w → w.to < seam) → find (λ w. meets seam w v) (first ++ rest) ≡ find (λ w. meets seam w v) rest
find_past_ended seam v [] rest h = refl
find_past_ended seam v (w ∷ first) rest h =
    let e = meets-early seam w v (h w (Contains-head w first)) in
    ap (λ (b : Bool). cond b (Some w) (find (λ w. meets seam w v) (first ++ rest))) e
    ∙ find_past_ended seam v first rest (λ x k. h x (Contains-rest w x first k))

map_reach_past : (seam : ℕ) (first rest right : List Gap)
    → ((w : Gap) → Contains first w → w.to < seam) → map (reach_back seam (first ++ rest)) right ≡ map (reach_back seam rest) right
map_reach_past seam first rest [] h = refl
map_reach_past seam first rest (v ∷ right) h = ap₂
    (λ y ys. y ∷ ys) (ap (λ o. from_seam v o) (find_past_ended seam v first rest h)) (map_reach_past seam first rest right h)

-- the silences of both parts, if those up to a place ended before the seam
pub join_from : (seam n : ℕ) (left tail right joined : List Gap) → ((w : Gap) → Contains (take n left) w → w.to < seam) → tail ≡ drop n left
    → joined ≡ (take n left ++ filter (stops seam right) tail) ++ map (reach_back seam tail) right
    → joined ≡ filter (stops seam right) left ++ map (reach_back seam left) right
join_from seam n left tail right joined h e f =
    let whole = take-append-drop n left in
    let kept = filter_past seam right (take n left) (drop n left) h in
    let reached = map_reach_past seam (take n left) (drop n left) right h in
    let g : joined ≡ (take n left ++ filter (stops seam right) (drop n left))
    ++ map (reach_back seam (drop n left)) right =
    subst (λ t. joined ≡ (take n left ++ filter (stops seam right) t) ++ map (reach_back seam t) right) e f in
    g ∙ ap₂ (λ a b. a ++ b) (sym kept ∙ ap (λ xs. filter (stops seam right) xs) whole)
    (sym reached ∙ ap (λ xs. map (reach_back seam xs) right) whole)
