-- Places of evidence are noted one after the other.
use Rattle.std.proofs.Common.{ℕ, ◌≡◌, ◌+◌, ◌<◌, inl, inr, Bool, true, false, cond, List, [], ◌∷◌, ◌++◌, length, get_or, suc, Option, None, Some, refl, sym, subst, ◌∙◌, ap, arith}
use Rattle.std.specs.Prelude.{slice_get}
use Rattle.std.proofs.lemmas.Bool.{cases_lt}
use Rattle.std.proofs.lemmas.Option.{same_Some, slice_get-get_or}
use Rattle.run_story.specs.declared.evidence.Evidence.{Evidence}
use Rattle.run_story.specs.declared.named.Named.{Named}
use Rattle.run_story.specs.Named.{AreNamedBelow, IsLastPlaceBelow, IsNamedBelow, begins, brief_to, has_gap_of, has_miss_of, named_at, with_gap, with_miss}

-- evidence that doesn't pass is not at that place
fails-there : (test : Evidence → Bool) (list : List Evidence) (n : ℕ) (x : Evidence) → test x ≡ false → slice_get list n ≡ Some x
    → (i : ℕ) (f : Evidence) → n ≡ i → slice_get list i ≡ Some f → test f ≡ false
fails-there test list n x passes at i f same is =
    let own : x ≡ f = same_Some x f (sym at ∙ subst (λ (k : ℕ). slice_get list k ≡ Some f) (sym same) is) in
    subst (λ (y : Evidence). test y ≡ false) own passes

-- one piece of evidence more
place-next : (test : Evidence → Bool) (list : List Evidence) (n : ℕ) (x : Evidence) (b : Bool) (o : Option ℕ)
    → test x ≡ b → slice_get list n ≡ Some x → IsLastPlaceBelow test list n o
    → IsLastPlaceBelow test list (n + 1) (cond b (Some n) o)
place-next test list n x true o passes at known = ((x, omega arith, at, passes), λ i f later l is. absurd (omega arith))
place-next test list n x false None passes at known = λ j e l is. elim (cases_lt j n) [
  | inl before ↦ known j e before is
  | inr after ↦ fails-there test list n x passes at j e (omega arith) is
]
place-next test list n x false (Some j) passes at known = (
  (known.0.0, (let before = known.0.1 in omega (arith, before)), known.0.2, known.0.3),
  λ i f later l is. elim (cases_lt i n) [
    | inl before ↦ known.1 i f later before is
    | inr after ↦ fails-there test list n x passes at i f (omega arith) is
  ],
)

-- what is noted of it at one place
noted : (list : List Evidence) (n k : ℕ) (x : Evidence) (m : Named) (g h : Bool) → has_gap_of k x ≡ g → has_miss_of k x ≡ h
    → slice_get list n ≡ Some x → IsNamedBelow list n k m → IsNamedBelow list (n + 1) k (with_miss (with_gap m x.stall k n) x.delay k n)
noted list n k x m true true e f at known = rw (e, f) (record {
  miss = place-next (has_miss_of k) list n x true m.miss f at known.miss;
  gap = place-next (has_gap_of k) list n x true m.gap e at known.gap;
})
noted list n k x m true false e f at known = rw (e, f) (record {
  miss = place-next (has_miss_of k) list n x false m.miss f at known.miss;
  gap = place-next (has_gap_of k) list n x true m.gap e at known.gap;
})
noted list n k x m false true e f at known = rw (e, f) (record {
  miss = place-next (has_miss_of k) list n x true m.miss f at known.miss;
  gap = place-next (has_gap_of k) list n x false m.gap e at known.gap;
})
noted list n k x m false false e f at known = rw (e, f) (record {
  miss = place-next (has_miss_of k) list n x false m.miss f at known.miss;
  gap = place-next (has_gap_of k) list n x false m.gap e at known.gap;
})

-- what is noted of it is named
pub named-next : (rows n : ℕ) (list : List Evidence) (d : Evidence) (old middle new : List Named) → n < length list → length new ≡ rows
    → AreNamedBelow rows list n old
    → ((k : ℕ) → k < rows → named_at middle k ≡ with_gap (named_at old k) (get_or list n d).stall k n)
    → ((k : ℕ) → k < rows → named_at new k ≡ with_miss (named_at middle k) (get_or list n d).delay k n)
    → AreNamedBelow rows list (n + 1) new
named-next rows n list d old middle new inside long are gaps misses = record {
  long = long;
  each = λ k l.
      let x = get_or list n d in
      subst (IsNamedBelow list (n + 1) k) (sym (misses k l ∙ ap (λ (m : Named). with_miss m x.delay k n) (gaps k l)))
      (noted list n k x (named_at old k) (has_gap_of k x) (has_miss_of k x) refl refl (slice_get-get_or list n d inside) (are.each k l));
}

-- one brief row more
pub brief-pushed : (named : List Named) (k : ℕ) (rows next : List ℕ)
    → begins named k ≡ true → rows ≡ brief_to named k → next ≡ rows ++ k ∷ [] → next ≡ brief_to named (k + 1)
brief-pushed named k rows next begin known pushed =
    let one : k + 1 ≡ suc k = omega arith in rw (one, begin) (pushed ∙ ap (λ l. l ++ k ∷ []) known)

-- a row that isn't
pub brief-kept : (named : List Named) (k : ℕ) (rows : List ℕ)
    → begins named k ≡ false → rows ≡ brief_to named k → rows ≡ brief_to named (k + 1)
brief-kept named k rows begin known = let one : k + 1 ≡ suc k = omega arith in rw (one, begin) known
