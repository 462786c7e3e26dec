-- Short silences, and lists of their ends.
use Rattle.std.proofs.Common.{ℕ, ◌≡◌, ◌+◌, ◌-◌, ◌<◌, ◌≤◌, ◌⊎◌, inl, inr, Bool, true, false, cond, not, ◌&&◌, List, [], ◌∷◌, ◌++◌, length, refl, sym, ap, ap₂, ◌∙◌, subst, arith}
use Rattle.std.specs.Prelude.{slice_index, nat_lt}
use Rattle.std.specs.List.{All, Contains}
use Rattle.std.proofs.lemmas.Bool.{cases_lt, lt-ltb, le-ltb, and_parts, not-true}
use Rattle.std.proofs.lemmas.List.{get_or-map, get_or_append_left}
use Rattle.std.proofs.lemmas.Grind.{common_steps}
use Rattle.std.proofs.lemmas.List.Elements.{All-push, Contains-push, Contains-append_left}
use Rattle.std.proofs.Math.Seq.{get_or-append_seam}
use Rattle.timed_events.specs.declared.events.Event.{Event}
use Rattle.timed_events.specs.declared.idle_ticks.IdleTick.{IdleTick}
use Rattle.timed_events.specs.Checks.{moment_of}
use Rattle.timed_events.specs.IdleTicks.{HasEventIn, IsShortSilence, AreRising, moments_of}
use Rattle.timed_events.specs.IdleWalks.{is_short, noted, IsLatestBefore}

-- the ticks after the latest event before t are a silence
pub latest-short : (events : List Event) (ticks : List ℕ) (limit p t u y : ℕ)
    → IsLatestBefore events ticks p t u → t ≡ y + 1 → u < y → y ≤ u + limit → IsShortSilence events ticks limit p y
latest-short events ticks limit p t u y h e some short = record {
  since = u;
  from = h.from;
  some = some;
  silent = λ z l m. h.silent z l (omega arith);
  short = short;
}

-- a silence up to the tick before t begins after the latest event before t
pub short-latest : (events : List Event) (ticks : List ℕ) (limit p t u y : ℕ)
    → IsLatestBefore events ticks p t u → t ≡ y + 1 → IsShortSilence events ticks limit p y → (u < y) × (y ≤ u + limit)
short-latest events ticks limit p t u y h e s = go (cases_lt s.since u) (cases_lt u s.since) h.from s.from where
  some : s.since < y
  some = s.some

  short : y ≤ s.since + limit
  short = s.short

  below : u < t
  below = h.below

  go : (s.since < u) ⊎ (u ≤ s.since) → (u < s.since) ⊎ (s.since ≤ u)
      → (u ≡ 0) ⊎ HasEventIn events ticks p u → (s.since ≡ 0) ⊎ HasEventIn events ticks p s.since → (u < y) × (y ≤ u + limit)
  go (inl less) c (inl zero) g = absurd (omega arith)
  go (inl less) c (inr has) g = absurd (s.silent u less (let b = below in omega arith) has)
  go (inr more) (inl less) f (inl zero) = absurd (omega arith)
  go (inr more) (inl less) f (inr has) = absurd (h.silent s.since less (let b = some in omega arith) has)
  go (inr more) (inr least) f g = let a = some in let b = short in (omega arith, omega arith)

short-is : (since y limit : ℕ) → is_short since y limit ≡ true → (since < y) × (y ≤ since + limit)
short-is since y limit h =
    let b = and_parts (nat_lt since y) (not (nat_lt limit (y - since))) h in
    let c = not-true (nat_lt limit (y - since)) b.1 in
    let d = b.0 in
    let l : since < y = grind arith in
    let m : y - since ≤ limit = grind arith in
    (l, omega arith)

is-short : (since y limit : ℕ) → since < y → y ≤ since + limit → is_short since y limit ≡ true
is-short since y limit l m = ap₂ (λ a b. a && not b) (lt-ltb since y l) (le-ltb limit (y - since) (omega arith))

rising-push : (xs : List IdleTick) (x : IdleTick) → AreRising xs
    → All (λ y. moment_of y.tick y.processor < moment_of x.tick x.processor) xs → AreRising (xs ++ x ∷ [])
rising-push xs x r below j k l m = go (cases_lt k (length xs)) where
  long : length (xs ++ x ∷ []) ≡ length xs + 1
  long = grind (arith, common_steps)

  old : (i : ℕ) → i < length xs → slice_index (moments_of (xs ++ x ∷ [])) i ≡ slice_index (moments_of xs) i
  old i b =
      get_or-map (λ (y : IdleTick). moment_of y.tick y.processor) (xs ++ x ∷ []) i x 0 (let e = long in omega arith)
      ∙ ap (λ (y : IdleTick). moment_of y.tick y.processor) (get_or_append_left xs (x ∷ []) x i b)
      ∙ sym (get_or-map (λ (y : IdleTick). moment_of y.tick y.processor) xs i x 0 b)

  old-below : (i : ℕ) → i < length xs → slice_index (moments_of xs) i < moment_of x.tick x.processor
  old-below i b = subst (λ t. t < moment_of x.tick x.processor)
      (sym (get_or-map (λ (y : IdleTick). moment_of y.tick y.processor) xs i x 0 b)) (below i x b)

  new : slice_index (moments_of (xs ++ x ∷ [])) (length xs) ≡ moment_of x.tick x.processor
  new =
      get_or-map (λ (y : IdleTick). moment_of y.tick y.processor) (xs ++ x ∷ []) (length xs) x 0 (let e = long in omega arith)
      ∙ ap (λ (y : IdleTick). moment_of y.tick y.processor) (get_or-append_seam xs x [] x)

  go : (k < length xs) ⊎ (length xs ≤ k) → slice_index (moments_of (xs ++ x ∷ [])) j < slice_index (moments_of (xs ++ x ∷ [])) k
  go (inl b) = let a = old j (omega arith) in let c = old k b in let d = r j k l b in omega arith
  go (inr b) =
      let n = long in
      let e : k ≡ length xs = omega arith in
      let a = old j (omega arith) in
      let c = ap (slice_index (moments_of (xs ++ x ∷ []))) e ∙ new in
      let d = old-below j (omega arith) in
      omega arith

module _ (xs : List IdleTick) (index since y limit : ℕ) where
  abbrev new : IdleTick
  new = record { processor = index + 1; tick = y }

  by : (P : List IdleTick → Type 0) → (since < y → y ≤ since + limit → P (xs ++ new ∷ [])) → P xs → P (noted xs index since y limit)
  by P h q = go (is_short since y limit) refl where
    go : (b : Bool) → is_short since y limit ≡ b → P (cond b (xs ++ new ∷ []) xs)
    go true e = let s = short-is since y limit e in h s.0 s.1
    go false e = q

  -- what holds of each, and of the new one
  pub noted-all : (P : IdleTick → Type 0) → All P xs → (since < y → y ≤ since + limit → P new) → All P (noted xs index since y limit)
  noted-all P h n = by (All P) (λ a b. All-push P xs new h (n a b)) h

  pub noted-kept : (x : IdleTick) → Contains xs x → Contains (noted xs index since y limit) x
  noted-kept x h = by (λ zs. Contains zs x) (λ a b. Contains-append_left xs (new ∷ []) x h) h

  pub noted-new : since < y → y ≤ since + limit → Contains (noted xs index since y limit) new
  noted-new a b = subst (λ t. Contains (cond t (xs ++ new ∷ []) xs) new) (sym (is-short since y limit a b)) (Contains-push xs new)

  pub noted-rising : AreRising xs → (since < y → y ≤ since + limit
      → All (λ x. moment_of x.tick x.processor < moment_of new.tick new.processor) xs) → AreRising (noted xs index since y limit)
  noted-rising r h = by AreRising (λ a b. rising-push xs new r (h a b)) r
