-- What thinning keeps of a list of all that is meant: the undominated, and no others.
use Rattle.std.proofs.Common.{ℕ, ◌≡◌, ◌≤◌, List, [], ◌∷◌, ◌||◌, Bool, true, false, cond, Contains, Option, Some, None, refl, sym, ap, subst, ◌∙◌, inl, inr, arith, true≢false}
use Rattle.std.specs.Prelude.{nat_lt}
use Rattle.std.proofs.lemmas.Bool.{ltb-true}
use Rattle.step_trace.specs.Traces.{Recorded}
use Rattle.step_trace.proofs.ListMembers.{Contains-head, Contains-rest, Contains-cons_cases, Contains-nil}
use Rattle.chunk_join.specs.Summaries.{IsListing, Rises, Summary, IsSummary, Whole, SentBefore, EndsBefore, IsSent, IsLongest}
use Rattle.chunk_join.specs.Thinning.{heaviest, stays, thinned, IsUndominated}
use Rattle.chunk_join.specs.Digests.{is_open, miss_long, reaches_edge, gap_long, digest, IsDigestOf, HasUndominated, KeepsUndominated}
use Rattle.chunk_join.specs.Laws.Thinned.{Contains-from_thinned, Rises-thinned, kept_or_needless}
use Rattle.chunk_join.specs.Laws.PiecesJoined.{sent_strict, ends_strict}

module _ {X : Type 0} (Before : X → X → Type 0) (strict : (x y : X) → Before x y → Before y x → ⊥)
    (pending : X → Bool) (weight : X → ℕ) where
  abbrev Undominated : (X → Type 0) → X → Type 0
  Undominated = IsUndominated Before pending weight

  abbrev top : List X → ℕ
  top = heaviest pending weight

  abbrev kept : List X → List X
  kept = thinned pending weight

  -- the weight of each settled element is at most the greatest
  weight_within : (xs : List X) (y : X) → Contains xs y → pending y ≡ false → weight y ≤ top xs
  weight_within [] y k e = absurd (Contains-nil y k)
  weight_within (x ∷ xs) y k e = elim (Contains-cons_cases x y xs k) [
    | inl same ↦ (let s = ap (λ (b : Bool). cond b 0 (weight x)) (ap pending same ∙ e) in omega (arith, ap weight same, s))
    | inr later ↦ omega (arith, weight_within xs y later e)
  ]

  -- what is kept is undominated in the list
  kept_heavy : (xs : List X) → Rises Before xs → (x : X) → Contains (kept xs) x → Undominated (Contains xs) x
  kept_heavy [] r x c = absurd (Contains-nil x c)
  kept_heavy (z ∷ zs) r x c = go (λ k. rest (kept_heavy zs r.1 x k)) (stays pending weight (top zs) z) refl c where
    Heavy : List X → X → Type 0
    Heavy list v = Undominated (Contains list) v

    -- one of the rest comes after the first, so that nothing comes to be later
    rest : Heavy zs x → Heavy (z ∷ zs) x
    rest own = record {
      meant = Contains-rest z x zs own.meant;
      heavy = elim own.heavy [
        | inl e ↦ inl e
        | inr h ↦ inr (
          h.0,
          λ y m b e. elim (Contains-cons_cases z y zs m) [
            | inl same ↦ absurd (strict x y b (subst (λ v. Before v x) same (r.0 x own.meant)))
            | inr later ↦ h.1 y later b e
          ],
        )
      ];
    }

    first : (p : Bool) → pending z ≡ p → (p || nat_lt (top zs) (weight z)) ≡ true → Heavy (z ∷ zs) z
    first true e s = record { meant = Contains-head z zs; heavy = inl e }
    first false e s = let l = ltb-true (top zs) (weight z) s in record {
      meant = Contains-head z zs;
      heavy = inr (
        omega (arith, l),
        λ y m b settled. elim (Contains-cons_cases z y zs m) [
          | inl same ↦ absurd (let own = subst (λ v. Before z v) (sym same) b in strict z z own own)
          | inr later ↦ omega (arith, weight_within zs y later settled, l)
        ],
      );
    }

    go : (Contains (kept zs) x → Heavy (z ∷ zs) x)
        → (b : Bool) → stays pending weight (top zs) z ≡ b → Contains (cond b (z ∷ kept zs) (kept zs)) x → Heavy (z ∷ zs) x
    go later false e k = later k
    go later true e k = elim (Contains-cons_cases z x (kept zs) k) [
      | inl same ↦ subst (Heavy (z ∷ zs)) same (first (pending z) refl e)
      | inr rest ↦ later rest
    ]

  -- of a list that has all that is meant, the undominated ones are kept
  pub thinned_listing : (Is : X → Type 0) (xs : List X) → IsListing Before Is xs → IsListing Before (Undominated Is) (kept xs)
  thinned_listing Is xs all = record {
    rising = Rises-thinned Before pending weight xs all.rising;
    sound = λ x k. (let own = kept_heavy xs all.rising x k in record {
      meant = all.sound x own.meant;
      heavy = elim own.heavy [ inl e ↦ inl e | inr h ↦ inr (h.0, λ y i. h.1 y (all.complete y i)) ];
    });
    complete = λ x u. elim (kept_or_needless Before pending weight xs all.rising x (all.complete x u.meant)) [
      | inl k ↦ k
      | inr n ↦ elim u.heavy [
        | inl e ↦ absurd (true≢false (sym e ∙ n.settled))
        | inr h ↦ elim n.covered [
          | inl none ↦ absurd (omega (arith, none, h.0))
          | inr c ↦ absurd (let l = h.1 c.by (all.sound c.by (Contains-from_thinned pending weight xs c.by c.listed)) c.later c.settled in
              omega (arith, c.as_heavy, l))
        ]
      ]
    ];
  }

digest_keeps : (set : ℕ) (t : Recorded) (i j : ℕ) (s : Summary) → IsSummary set t i j s → HasUndominated set t i j (digest s)
digest_keeps set t i j s a = record {
  sent = thinned_listing SentBefore sent_strict is_open miss_long (IsSent set t i j) s.sent a.sent;
  silent = rw (← a.from, ← a.to)
      (thinned_listing EndsBefore ends_strict (reaches_edge s.from s.to) gap_long (IsLongest set t i s.to) s.silent (rw a.to a.silent));
}

-- so a digest keeps them
pub IsDigestOf-keeps : (whole : Whole) (i j : ℕ) (d : Option Summary)
    → IsDigestOf whole i j d → KeepsUndominated whole.set whole.trace i j d
IsDigestOf-keeps whole i j None h = h
IsDigestOf-keeps whole i j (Some d) (low, high, (s, is, e)) =
    subst (HasUndominated whole.set whole.trace i j) (sym e) (digest_keeps whole.set whole.trace i j s is)
