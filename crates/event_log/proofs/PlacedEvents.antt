-- Events that are placed one after the other, each where it was.
use Rattle.std.proofs.Common.{ℕ, ◌≡◌, ◌∙◌, ◌+◌, ◌<◌, List, ◌++◌, Option, get_or, length, map, set, take, drop}
use Rattle.std.proofs.Common.{refl, sym, ap, subst, arith, add-zero}
use Rattle.std.specs.List.{All}
use Rattle.std.proofs.lemmas.List.{drop-drop, drop-set-lt, get_or-drop, length-drop, map_more, map_push, take_more_set}
use Rattle.std.proofs.lemmas.List.Elements.{All-get_or, All-push}
use Rattle.event_log.specs.declared.packed_events.PackedEvent.{PackedEvent}
use Rattle.event_log.specs.Events.{resolved}
use Rattle.event_log.specs.PackedEvents.{IsWithin, placed, unpacked}
use Rattle.event_log.specs.SentMessages.{Sent}
use Rattle.event_log.proofs.PackedEvents.{placed-stay, within-stay}

-- from i on the elements are as they were
inside-old : {X : Type 0} (old now : List X) (i : ℕ) → drop i now ≡ drop i old → i < length now → i < length old
inside-old old now i rest l =
    let same = ap length rest in
    omega (arith, l, same, length-drop i now, length-drop i old)

pub same-at : {X : Type 0} (old now : List X) (i : ℕ) (d : X) → drop i now ≡ drop i old → get_or now i d ≡ get_or old i d
same-at {X = X} old now i d rest =
    let first = λ (xs : List X). get_or-drop i xs 0 d ∙ ap (λ k. get_or xs k d) (add-zero i) in
    sym (first now) ∙ ap (λ xs. get_or xs 0 d) rest ∙ first old

-- what holds of each element holds of the one at i, which is as it was
pub own-holds : {X : Type 0} (P : X → Type 0) (old now : List X) (i : ℕ) (d : X)
    → drop i now ≡ drop i old → i < length now → All P old → P (get_or now i d)
own-holds P old now i d rest l all =
    subst P (sym (same-at old now i d rest)) (All-get_or P old i d (inside-old old now i rest l) all)

pub rest-next : {X : Type 0} (old now : List X) (i : ℕ) (x : X)
    → drop i now ≡ drop i old → drop (i + 1) (set now i x) ≡ drop (i + 1) old
rest-next old now i x rest =
    drop-set-lt (i + 1) now i x (omega arith) ∙ sym (drop-drop 1 i now) ∙ ap (drop 1) rest ∙ drop-drop 1 i old

-- the event at i is placed, and its messages go after those of the events before
pub within-next : (messages more after : List (Option ℕ)) (now : List PackedEvent) (i : ℕ) (event : PackedEvent)
    → after ≡ messages ++ more → i < length now → All (IsWithin (length messages)) (take i now)
    → IsWithin (length after) event → All (IsWithin (length after)) (take (i + 1) (set now i event))
within-next messages more after now i event is l before own =
    let front = take i now in
    let stay = subst (λ xs. All (IsWithin (length xs)) front) (sym is) (within-stay messages more front before) in
    rw (take_more_set now i event l) (All-push (IsWithin (length after)) front event stay own)

maps-next : {X A Y : Type 0} (f f' : X → Y) (g : X → A) (h : A → Y) (old now : List X) (i : ℕ) (d x : X)
    → i < length now → drop i now ≡ drop i old → map f' (take i now) ≡ map f (take i now)
    → map f (take i now) ≡ map h (map g (take i old)) → f' x ≡ h (g (get_or now i d))
    → map f' (take (i + 1) (set now i x)) ≡ map h (map g (take (i + 1) old))
maps-next f f' g h old now i d x l rest stay before own =
    rw (
      take_more_set now i x l,
      map_push f' (take i now) x,
      map_more g old i d (inside-old old now i rest l),
      map_push h (map g (take i old)) (g (get_or old i d)),
      stay,
      before,
      own,
      same-at old now i d rest,
    ) refl

pub placed-next : (sent : Sent) (names : List ℕ) (messages more after : List (Option ℕ)) (old now : List PackedEvent)
    (i : ℕ) (d event : PackedEvent)
    → after ≡ messages ++ more → i < length now → drop i now ≡ drop i old
    → All (IsWithin (length messages)) (take i now)
    → map (placed messages) (take i now) ≡ map (resolved sent) (map (unpacked names) (take i old))
    → placed after event ≡ resolved sent (unpacked names (get_or now i d))
    → map (placed after) (take (i + 1) (set now i event))
    ≡ map (resolved sent) (map (unpacked names) (take (i + 1) old))
placed-next sent names messages more after old now i d event is l rest within before own =
    let front = take i now in
    let stay =
    subst (λ xs. map (placed xs) front ≡ map (placed messages) front) (sym is)
    (placed-stay messages more front within) in
    maps-next (placed messages) (placed after) (unpacked names) (resolved sent) old now i d event l rest stay before own
