-- Events whose clocks are moved one by one.
use Rattle.std.proofs.Common.{ℕ, zero, suc, ◌≡◌, ◌+◌, ◌-◌, ◌<◌, ◌≤◌, List, [], ◌∷◌, ◌++◌, length, map, take, drop, Option, Some, refl, sym, ap, ap₂, subst, ◌∙◌, arith, below_more, ℤ, pos, ◌+ℤ◌, ◌<ℤ◌, ◌≤ℤ◌}
use Rattle.std.specs.Prelude.{slice_get, slice_index_or, slice_set}
use Rattle.std.specs.Option.{option_map_or}
use Rattle.std.specs.Int.Signed.{clash_ℤ}
use Rattle.timed_events.specs.declared.events.Event.{Event}
use Rattle.timed_events.specs.Checks.{time_at}
use Rattle.clock_offsets.specs.EventNeeds.{clock_at, offset_in}
use Rattle.clock_offsets.specs.MovedClocks.{moved_event, IsTooLate}

-- a list of which so many first elements are changed
abbrev pub changed_to : (Event → Event) → List Event → ℕ → List Event
changed_to f ys k = map f (take k ys) ++ drop k ys

-- the next one is unchanged
pub next-is : (f : Event → Event) (ys : List Event) (k : ℕ) (d : Event) → slice_index_or (changed_to f ys k) k d ≡ slice_index_or ys k d
next-is f [] zero d = refl
next-is f [] (suc k) d = refl
next-is f (y ∷ ys) zero d = refl
next-is f (y ∷ ys) (suc k) d = next-is f ys k d

-- and once it is changed there is one more
pub changed-next : (f : Event → Event) (ys : List Event) (k : ℕ) (d : Event)
    → k < length ys → slice_set (changed_to f ys k) k (f (slice_index_or ys k d)) ≡ changed_to f ys (k + 1)
changed-next f [] k d l = absurd (omega arith)
changed-next f (y ∷ ys) zero d l = refl
changed-next f (y ∷ ys) (suc k) d l = let e : suc k + 1 ≡ suc (k + 1) = omega arith in
    rw e (ap (λ zs. f y ∷ zs) (changed-next f ys k d (omega arith)))

pub moved-next : (f : Event → Event) (ys items : List Event) (k : ℕ) (d new : Event) → items ≡ changed_to f ys k
    → k < length ys → new ≡ f (slice_index_or items k d) → slice_set items k new ≡ changed_to f ys (k + 1)
moved-next f ys items k d new e l h =
    ap₂ (λ xs x. slice_set xs k x) e (h ∙ ap f (ap (λ xs. slice_index_or xs k d) e ∙ next-is f ys k d)) ∙ changed-next f ys k d l

some-at : (ys : List Event) (k : ℕ) (d : Event) → k < length ys → slice_get ys k ≡ Some (slice_index_or ys k d)
some-at [] k d l = absurd (omega arith)
some-at (y ∷ ys) zero d l = refl
some-at (y ∷ ys) (suc k) d l = some-at ys k d (omega arith)

-- the time to which the next one is moved
moved-time : (offsets : List ℤ) (ys items : List Event) (k : ℕ) (d : Event)
    → items ≡ changed_to (moved_event offsets) ys k → k < length ys
    → (slice_index_or items k d).time +ℤ offset_in offsets ((slice_index_or items k d).processor - 1)
    ≡ time_at ys k +ℤ offset_in offsets (clock_at ys k)
moved-time offsets ys items k d e l =
    ap (λ (x : Event). x.time +ℤ offset_in offsets (x.processor - 1))
    (ap (λ xs. slice_index_or xs k d) e ∙ next-is (moved_event offsets) ys k d)
    ∙ ap (λ (o : Option Event).
    option_map_or (λ e. e.time) o (pos 0) +ℤ offset_in offsets (option_map_or (λ e. e.processor) o 0 - 1)) (sym (some-at ys k d l))

-- it is too late
pub late-next : (offsets : List ℤ) (latest : ℤ) (ys items : List Event) (k : ℕ) (d : Event) → items ≡ changed_to (moved_event offsets) ys k
    → k < length ys → latest <ℤ ((slice_index_or items k d).time +ℤ offset_in offsets ((slice_index_or items k d).processor - 1))
    → IsTooLate ys offsets latest
late-next offsets latest ys items k d e l h = (k, l, subst (λ t. latest <ℤ t) (moved-time offsets ys items k d e l) h)

-- the first events come in time once they are moved
abbrev pub AreInTime : List Event → List ℤ → ℤ → ℕ → Type 0
AreInTime ys offsets latest k = (i : ℕ) → i < k → (time_at ys i +ℤ offset_in offsets (clock_at ys i)) ≤ℤ latest

-- and the next one too
pub in_time-next : (offsets : List ℤ) (latest : ℤ) (ys items : List Event) (k : ℕ) (d : Event)
    → items ≡ changed_to (moved_event offsets) ys k → k < length ys
    → ((slice_index_or items k d).time +ℤ offset_in offsets ((slice_index_or items k d).processor - 1)) ≤ℤ latest
    → AreInTime ys offsets latest k → AreInTime ys offsets latest (k + 1)
in_time-next offsets latest ys items k d e l h t =
    below_more (λ i. (time_at ys i +ℤ offset_in offsets (clock_at ys i)) ≤ℤ latest) k t
    (subst (λ t. t ≤ℤ latest) (moved-time offsets ys items k d e l) h)

-- so none is too late
pub not_late : (ys : List Event) (offsets : List ℤ) (latest : ℤ) (k : ℕ) → AreInTime ys offsets latest k → length ys ≤ k
    → ¬ IsTooLate ys offsets latest
not_late ys offsets latest k t l late = clash_ℤ late.2 (t late.0 (let h = late.1 in omega arith))
