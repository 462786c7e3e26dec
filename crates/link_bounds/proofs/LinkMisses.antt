-- The misses of one link, going back over a step.
use Rattle.std.proofs.Common.{ℕ, ◌≡◌, ◌≢◌, ◌+◌, ◌-◌, ◌*◌, ◌<◌, ◌≤◌, inl, inr, List, length, get_or, set, Option, Some, None, sym, ap, subst, ◌∙◌, arith, get_or-set_same, get_or-set_other}
use Rattle.std.specs.Prelude.{unwrap_or}
use Rattle.std.proofs.lemmas.Bool.{cases_eq}
use Rattle.std.proofs.lemmas.Option.{same_Some}
use Rattle.step_trace.specs.declared.rows.Miss.{Miss}
use Rattle.step_trace.specs.declared.steps.Step.{Step}
use Rattle.step_trace.specs.declared.processors.TheConstants.{MAX_MEMBER}
use Rattle.step_trace.specs.Steps.{act_dest}
use Rattle.step_trace.specs.Traces.{Recorded}
use Rattle.step_trace.specs.Ticks.{tick_of}
use Rattle.step_trace.specs.Bounds.{IsMessage}
use Rattle.step_trace.specs.Witnesses.{IsMiss}
use Rattle.suffix_staircase.proofs.MissNumbers.{IsLastMissOf}
use Rattle.link_bounds.specs.declared.bounds.LeastBound.{LeastBound}
use Rattle.link_bounds.specs.declared.links.Links.{Links}
use Rattle.link_bounds.specs.declared.links.TheConstants.{RECEIVERS}
use Rattle.link_bounds.specs.Evidence.{noted, without_evidence}
use Rattle.link_bounds.specs.Links.{IsMessageOn}
use Rattle.link_bounds.specs.KnownMisses.{IsLaterMiss, KnowsMissesOf, KnowsLink, KnowsLinks, place_of}
use Rattle.link_bounds.proofs.NotedEvidence.{GrowsBy, AllowsAll-noted, AllowsAll-nothing, AllowsAll-same}

-- a message of a link is a message of the set
pub IsMessage-from_link : (members : ℕ) (steps : List Step) (p q s : ℕ) → IsMessageOn members steps p q s → IsMessage members steps s q
IsMessage-from_link members steps p q s m = record { from = p; sent = m.sent; sender = m.sender; receiver = m.receiver }

-- back over a step that is no message of it, nothing changes on a link
pub KnowsLink-pass : (members : ℕ) (t : Recorded) (p q x : ℕ) (slot : Option (LeastBound Miss)) → 1 ≤ x
    → ¬ IsMessageOn members t.steps p q x → KnowsLink members t p q x slot → KnowsLink members t p q (x - 1) slot
KnowsLink-pass members t p q x None low other k = λ s later m. elim (cases_eq s x) [
  | inl e ↦ other (subst (λ (n : ℕ). IsMessageOn members t.steps p q n) e m)
  | inr ne ↦ k s (omega (arith, ne)) m
]
KnowsLink-pass members t p q x (Some bound) low other k =
    let some = k.0 in
    let after = some.1 in (
      (some.0, omega arith, some.2),
      AllowsAll-same Miss (λ m. m.sent) (λ m. tick_of t m.sent) (λ m. tick_of t m.missed) (IsLaterMiss members t p q x)
          (IsLaterMiss members t p q (x - 1)) bound (λ m o. record { miss = o.miss; after = let a = o.after in omega arith })
          (λ m o. record { miss = o.miss; after = later m o }) k.1,
    ) where
      later : (m : Miss) → IsLaterMiss members t p q (x - 1) m → x < m.sent
      later m o = elim (cases_eq m.sent x) [
        | inl e ↦ absurd (other (subst (λ (n : ℕ). IsMessageOn members t.steps p q n) e o.miss.link))
        | inr ne ↦ (let a = o.after in omega (arith, ne))
      ]

-- the misses from one message on are those of later messages, and its own, of which the last is the longest
LaterMisses-grow : (members : ℕ) (t : Recorded) (p q x r : ℕ) → 1 ≤ x → IsMessageOn members t.steps p q x
    → IsLastMissOf members t x r → GrowsBy Miss (λ m. m.sent) (λ m. tick_of t m.sent) (λ m. tick_of t m.missed)
    (IsLaterMiss members t p q x) (IsLaterMiss members t p q (x - 1)) (record { sent = x; missed = r })
    (tick_of t r - tick_of t x)
LaterMisses-grow members t p q x r low message last = record {
  still = λ m o. record { miss = o.miss; after = let a = o.after in omega arith };
  before = λ m o some. o.after;
  found = λ some. (
    record { miss = record { miss = last.found (omega arith); link = message }; after = omega arith },
    omega arith,
  );
  rest = λ m o. elim (cases_eq m.sent x) [
    | inl e ↦ inr (let same = ap (tick_of t) e in let late = o.miss.miss.late in
        let most = last.last m.missed (subst (λ (n : ℕ). IsMiss members t (record { sent = n; missed = m.missed })) e o.miss.miss) in
        (omega arith, λ long. (omega (arith, e))))
    | inr ne ↦ inl (record { miss = o.miss; after = let a = o.after in omega (arith, ne) })
  ];
}

-- back over a message of a link, its bound takes the last miss
pub KnowsLink-note : (members : ℕ) (t : Recorded) (p q x r : ℕ) (slot : Option (LeastBound Miss)) → 1 ≤ x
    → IsMessageOn members t.steps p q x → IsLastMissOf members t x r → KnowsLink members t p q x slot
    → KnowsLink members t p q (x - 1)
    (Some (noted (unwrap_or slot without_evidence) (record { sent = x; missed = r }) (tick_of t r - tick_of t x)))
KnowsLink-note members t p q x r slot low message last k =
    ((x, omega arith, message), grown (unwrap_or slot without_evidence) (before slot k)) where
      before : (s : Option (LeastBound Miss)) → KnowsLink members t p q x s → KnowsMissesOf members t p q x (unwrap_or s without_evidence)
      before None none = AllowsAll-nothing Miss (λ m. m.sent)
          (λ m. tick_of t m.sent) (λ m. tick_of t m.missed) (IsLaterMiss members t p q x) (λ m o. none m.sent o.after o.miss.link)
      before (Some bound) known = known.1

      grown : (bound : LeastBound Miss) → KnowsMissesOf members t p q x bound
          → KnowsMissesOf members t p q (x - 1) (noted bound (record { sent = x; missed = r }) (tick_of t r - tick_of t x))
      grown bound known = AllowsAll-noted Miss (λ m. m.sent) (λ m. tick_of t m.sent) (λ m. tick_of t m.missed) (IsLaterMiss members t p q x)
          (IsLaterMiss members t p q (x - 1)) _ (tick_of t r - tick_of t x) bound
          (LaterMisses-grow members t p q x r low message last) known

-- back over a step that is no message of the set, nothing changes on any link
pub KnowsLinks-pass : (members : ℕ) (t : Recorded) (x : ℕ) (links : Links)
    → 1 ≤ x → ((b : ℕ) → ¬ IsMessage members t.steps x b) → KnowsLinks members t x links → KnowsLinks members t (x - 1) links
KnowsLinks-pass members t x links low none k = record {
  long = k.long;
  each = λ p q a b. KnowsLink-pass members t p q x _ low (λ m. none q (IsMessage-from_link members t.steps p q x m)) (k.each p q a b);
}

-- a message has one sender and one receiver
one_link : (members : ℕ) (steps : List Step) (p q a b s : ℕ)
    → IsMessageOn members steps p q s → IsMessageOn members steps a b s → (p ≡ a) × (q ≡ b)
one_link members steps p q a b s m n =
    let same = same_Some _ _ (sym m.sent ∙ n.sent) in
    (ap (λ (x : Step). x.proc) same, same_Some q b (ap (λ (x : Step). act_dest x.act) same))

-- back over a message, the bound of its link takes its last miss
pub links_noted : (members : ℕ) (t : Recorded) (x from to r : ℕ) (bounds : List (Option (LeastBound Miss))) → 1 ≤ x
    → from ≤ t.config.n → to ≤ MAX_MEMBER → length bounds ≡ (t.config.n + 1) * RECEIVERS
    → IsMessageOn members t.steps from to x → IsLastMissOf members t x r
    → ((p q : ℕ) → p ≤ t.config.n → q ≤ MAX_MEMBER → KnowsLink members t p q x (get_or bounds (place_of p q) None))
    → (p q : ℕ) → p ≤ t.config.n → q ≤ MAX_MEMBER
    → KnowsLink members t p q (x - 1)
    (get_or
    (set bounds (place_of from to)
    (Some (noted (unwrap_or (get_or bounds (place_of from to) None) without_evidence)
    (record { sent = x; missed = r }) (tick_of t r - tick_of t x)))) (place_of p q) None)
links_noted members t x from to r bounds low inside few long message last k p q a b = elim (cases_eq (place_of p q) (place_of from to)) [
  | inl e ↦ (let same_p : p ≡ from = omega arith in
      let same_q : q ≡ to = omega arith in
      let place : place_of from to < length bounds = omega arith in
      subst (λ (i : ℕ). KnowsLink members t i q (x - 1) (get_or (set bounds (place_of from to) new) (place_of i q) None)) (sym same_p)
      (subst (λ (i : ℕ). KnowsLink members t from i (x - 1) (get_or (set bounds (place_of from to) new) (place_of from i) None))
      (sym same_q)
      (rw (get_or-set_same bounds (place_of from to) new None place)
      (KnowsLink-note members t from to x r _ low message last (k from to inside few)))))
  | inr ne ↦ (let other : place_of p q ≢ place_of from to = ne in
      rw (get_or-set_other bounds (place_of from to) (place_of p q) new None other)
      (KnowsLink-pass members t p q x _ low
      (λ m. ne (let same = one_link members t.steps p q from to x m message in let e = same.0 in
      let f = same.1 in omega arith)) (k p q a b)))
] where
  new : Option (LeastBound Miss)
  new = Some (noted (unwrap_or (get_or bounds (place_of from to) None) without_evidence)
      (record { sent = x; missed = r }) (tick_of t r - tick_of t x))
