-- What is read of an event in the table.
use Rattle.std.proofs.Common.{ℕ, zero, suc, ◌≡◌, ◌∙◌, ◌-◌, ◌<◌, ◌≤◌, List, [], ◌∷◌, length, map, min, ap, arith}
use Rattle.std.specs.Prelude.{slice_index_or}
use Rattle.step_trace.specs.declared.configurations.TheConstants.{MAX_PROCESSORS}
use Rattle.timed_events.specs.declared.events.Event.{Event}
use Rattle.timed_events.specs.CausalWalks.{index_at}
use Rattle.timed_events.specs.Checks.{AreOfProcessors, processor_at}
use Rattle.merged_receives.specs.declared.actors.Actor.{Actor}
use Rattle.merged_receives.specs.Actors.{actor_of}
use Rattle.merged_receives.specs.Merges.{receives_at}

own-receives : (events : List Event) (i : ℕ) (a : Actor)
    → i < length events → a ≡ slice_index_or (map actor_of events) i a → a.receives ≡ receives_at events i
own-receives [] i a l e = absurd (omega (arith, l))
own-receives (x ∷ xs) zero a l e = ap (λ (b : Actor). b.receives) e
own-receives (x ∷ xs) (suc i) a l e = own-receives xs i a (omega (arith, l)) e

own-processor : (events : List Event) (i : ℕ) (a : Actor)
    → i < length events → a ≡ slice_index_or (map actor_of events) i a → a.processor ≡ min (processor_at events i) 255
own-processor [] i a l e = absurd (omega (arith, l))
own-processor (x ∷ xs) zero a l e = ap (λ (b : Actor). b.processor) e
own-processor (x ∷ xs) (suc i) a l e = own-processor xs i a (omega (arith, l)) e

-- what the walk needs of it
pub record IsActorAt (events : List Event) (i : ℕ) (a : Actor) : Type 0 where
  pub least : 1 ≤ a.processor
  pub most : a.processor ≤ MAX_PROCESSORS
  pub own : a.processor - 1 ≡ index_at events i
  pub receives : a.receives ≡ receives_at events i

pub actor-at : (events : List Event) (actors : List Actor) (i : ℕ) (a : Actor)
    → actors ≡ map actor_of events → AreOfProcessors events → i < length events → a ≡ slice_index_or actors i a → IsActorAt events i a
actor-at events actors i a are r l e =
    let read = e ∙ ap (λ (xs : List Actor). slice_index_or xs i a) are in
    let p = own-processor events i a l read in
    let low = (r i l).0 in
    let high = (r i l).1 in
    record {
      least = omega (arith, p, low, high);
      most = omega (arith, p, low, high);
      own = omega (arith, p, low, high);
      receives = own-receives events i a l read;
    }
