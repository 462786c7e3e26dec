-- The longest of the gaps that begin at a tick is that of the member whose next step comes last.
use Rattle.std.proofs.Common.{ℕ, ◌≡◌, ◌+◌, ◌-◌, ◌<◌, ◌≤◌, inl, inr, List, length, get_or, set, IsTrue, ◌&&◌, suc, zero, arith}
use Rattle.std.specs.Prelude.{nat_le, nat_lt}
use Rattle.std.proofs.lemmas.Bool.{cases_lt, leb-true, ltb-true, and_parts}
use Rattle.suffix_staircase.proofs.Common.{Gap, has_proc, IsWithin, Recorded, IsGap, AreNextSteps, IsLatest}
use Rattle.step_trace.specs.declared.processors.TheConstants.{MAX_MEMBER}

-- members are numbered from 1 to MAX_MEMBER
pub member_range : (set p : ℕ) → IsTrue (has_proc set p) → (1 ≤ p) × (p ≤ MAX_MEMBER)
member_range mask p m =
    let range = and_parts (nat_lt 0 p) (nat_le p MAX_MEMBER) (and_parts (nat_lt 0 p && nat_le p MAX_MEMBER) _ m).0 in
    (omega (arith, ltb-true 0 p range.0), leb-true p MAX_MEMBER range.1)

-- a gap from x on ends before the next step of its processor
gap_until : (set : ℕ) (t : Recorded) (x : ℕ) (next : List ℕ) (w : Gap)
    → IsWithin set t.config.n → AreNextSteps set t x next → IsGap set t w → w.from ≡ x → w.to < get_or next w.proc 0
gap_until set t x next w within k gap e = elim (cases_lt w.to (get_or next w.proc 0)) [
  | inl l ↦ l
  | inr h ↦ (let own = k.each w.proc (member_range set w.proc gap.member).0 (within w.proc gap.member) gap.member in
      absurd (gap.silent (get_or next w.proc 0) (omega (arith, own.from, e)) h (own.step (omega (arith, h, gap.inside)))))
]

-- what the latest next step of a member implies for the gaps that begin at x
pub record IsLongest (set : ℕ) (trace : Recorded) (x q until : ℕ) : Type 0 where
  pub gap : x < until → IsGap set trace (record { proc = q; from = x; to = until - 1 })
  pub longest : (w : Gap) → IsGap set trace w → w.from ≡ x → w.to < until
  pub least : (w : Gap) → IsGap set trace w → w.from ≡ x → w.to + 1 ≡ until → q ≤ w.proc

-- the member whose next step comes last has the longest gap
pub IsLongest-from_latest : (set : ℕ) (t : Recorded) (x q : ℕ) (next : List ℕ) → 1 ≤ x
    → IsWithin set t.config.n → AreNextSteps set t x next → IsLatest set next (length next) q → IsLongest set t x q (get_or next q 0)
IsLongest-from_latest set t x q next start within k latest = record {
  gap = gap q latest;
  longest = λ w i e.
      let high = within w.proc i.member in
      let most = latest.greatest w.proc (omega (arith, high, k.long)) (member_range set w.proc i.member).0 i.member in
      omega (arith, gap_until set t x next w within k i e, most);
  least = λ w i e until. elim (cases_lt w.proc q) [
    | inl below ↦ absurd (let less = latest.least w.proc below (member_range set w.proc i.member).0 i.member in
        omega (arith, gap_until set t x next w within k i e, less, until))
    | inr h ↦ h
  ];
} where
  gap : (p : ℕ) → IsLatest set next (length next) p
      → x < get_or next p 0 → IsGap set t (record { proc = p; from = x; to = get_or next p 0 - 1 })
  gap zero l h = absurd (omega (arith, k.zero, h))
  gap (suc p) l h =
      let member = l.member (omega arith) in
      let own = k.each (suc p) (omega arith) (within (suc p) member) member in
      record {
        member = member;
        start = start;
        order = omega arith;
        inside = omega (arith, own.until, h);
        silent = λ z a b. own.silent z a (omega (arith, b, h));
      }
