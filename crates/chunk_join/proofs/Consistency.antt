-- What holds of the lists of every summary, and is kept as two are joined.
use Rattle.std.proofs.Common.{ℕ, ◌≡◌, ◌+◌, ◌<◌, ◌≤◌, inl, inr, List, map, filter, find, None, Contains, sym, ap, subst, ◌∙◌, arith}
use Rattle.std.proofs.lemmas.List.Elements.{Contains-append_cases}
use Rattle.step_trace.specs.declared.rows.Gap.{Gap}
use Rattle.step_trace.specs.Traces.{Recorded}
use Rattle.step_trace.specs.Ticks.{IsTimed}
use Rattle.step_trace.proofs.ListMembers.{Contains-from_map, Contains-from_filter}
use Rattle.chunk_join.specs.declared.summaries.Place.{Place}
use Rattle.chunk_join.specs.declared.summaries.Message.{Message}
use Rattle.chunk_join.specs.Summaries.{Summary, IsSummary, IsConsistent, SentBefore, EndsBefore}
use Rattle.chunk_join.specs.Parts.{settle, stops, reach_back, takes_of, meets, parts_refusal, joined_parts}
use Rattle.chunk_join.specs.Laws.Listings.{Rises-append, Rises-map, Rises-filter}
use Rattle.chunk_join.specs.Laws.SentMessages.{settled_sent}
use Rattle.chunk_join.specs.Laws.SilencesJoined.{from_seam-to, reach_back-order}
use Rattle.chunk_join.specs.Laws.PiecesJoined.{length-later_each}
use Rattle.chunk_join.proofs.SettledMessages.{settled_rise}

pub IsConsistent-joined : (l r : Summary) → l.to + 1 ≡ r.from → IsConsistent l → IsConsistent r → IsConsistent (joined_parts l r)
IsConsistent-joined l r seam a b = record {
  start = a.start;
  order = omega (arith, low, high, seam);
  end = b.end;
  long = length-later_each l.last r.last ∙ a.long;
  sent_rising = Rises-append SentBefore settled r.sent (settled_rise r.taken l.last l.sent a.sent_rising) b.sent_rising
      (λ x y p q. inl (omega (arith, (left_sent x p).1, (b.sent_inside y q).0, seam)));
  sent_inside = λ x k. elim (Contains-append_cases settled r.sent x k) [
    | inl p ↦ (let u = left_sent x p in (u.0, omega (arith, u.1, seam, high)))
    | inr p ↦ (let u = b.sent_inside x p in (omega (arith, u.0, seam, low), u.1))
  ];
  silent_rising = Rises-append EndsBefore stopped reached (Rises-filter EndsBefore (stops l.to r.silent) l.silent a.silent_rising)
      (Rises-map EndsBefore (reach_back l.to l.silent) r.silent (λ x y p q h. reach_back-order l.to l.silent x y h) b.silent_rising)
      (λ x y p q. inl (omega (arith, (left_silent x p).1, (right_silent y q).0, seam)));
  silent_inside = λ x k. elim (Contains-append_cases stopped reached x k) [
    | inl p ↦ (let u = left_silent x p in (u.0, omega (arith, u.1, seam, high)))
    | inr p ↦ (let u = right_silent x p in (omega (arith, u.0, seam, low), u.1))
  ];
} where
  low : l.from ≤ l.to
  low = a.order

  high : r.from ≤ r.to
  high = b.order

  settled : List Message
  settled = map (settle r.taken l.last) l.sent

  stopped : List Gap
  stopped = filter (stops l.to r.silent) l.silent

  reached : List Gap
  reached = map (reach_back l.to l.silent) r.silent

  left_sent : (x : Message) → Contains settled x → (l.from ≤ x.sent.tick) × (x.sent.tick ≤ l.to)
  left_sent x k =
      let y = Contains-from_map (settle r.taken l.last) l.sent x k in
      let e = sym (settled_sent l.last y.0 (find (takes_of y.0) r.taken)) ∙ ap (λ (m : Message). m.sent) y.2 in
      subst (λ (p : Place). (l.from ≤ p.tick) × (p.tick ≤ l.to)) e (a.sent_inside y.0 y.1)

  left_silent : (x : Gap) → Contains stopped x → (l.from ≤ x.to) × (x.to ≤ l.to)
  left_silent x k = a.silent_inside x (Contains-from_filter (stops l.to r.silent) l.silent x k).0

  right_silent : (x : Gap) → Contains reached x → (r.from ≤ x.to) × (x.to ≤ r.to)
  right_silent x k =
      let y = Contains-from_map (reach_back l.to l.silent) r.silent x k in
      let e = sym (from_seam-to y.0 (find (λ w. meets l.to w y.0) l.silent)) ∙ ap (λ (w : Gap). w.to) y.2 in
      subst (λ (n : ℕ). (r.from ≤ n) × (n ≤ r.to)) e (b.silent_inside y.0 y.1)

-- parts that may be joined follow one another
pub seam_of : (l r : Summary) → parts_refusal l r ≡ None → l.to + 1 ≡ r.from
seam_of l r h = grind (arith, h)

-- what holds of the lists of every summary holds of that of a part
pub IsConsistent-summary : (set : ℕ) (t : Recorded)
    → IsTimed t → (i j : ℕ) (s : Summary) → i < j → j ≤ t.last → IsSummary set t i j s → IsConsistent s
IsConsistent-summary set t time i j s low high a = record {
  start = omega (arith, a.from);
  order = omega (arith, a.from, a.to, low);
  end = omega (arith, a.to, time.end, high);
  long = a.last.long;
  sent_rising = a.sent.rising;
  sent_inside = λ m k. (let o = a.sent.sound m k in (omega (arith, a.from, o.after), omega (arith, a.to, o.until)));
  silent_rising = a.silent.rising;
  silent_inside = λ w k. (let o = a.silent.sound w k in (omega (arith, a.from, o.after, o.gap.order), omega (arith, a.to, o.until)));
}
