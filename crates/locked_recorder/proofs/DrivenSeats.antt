-- A seat from which one step more is made.
use Rattle.std.proofs.Common.{ℕ, ◌≡◌, ◌+◌, ◌<◌, ◌≤◌, Bool, true, false, nat_lt, List, [], ◌∷◌, ◌++◌, length, take, get_or, Some, refl, sym, ap, ◌∙◌, subst, arith}
use Rattle.std.specs.Prelude.{slice_get}
use Rattle.std.proofs.lemmas.Bool.Decides.{nat_tests}
use Rattle.std.proofs.Math.Seq.{take-append_seam, get_or-append_seam}
use Rattle.std.proofs.lemmas.Option.{slice_get_within, slice_get-get_or, get_or_from_slice_get}
use Rattle.std.proofs.lemmas.List.{append-nil, append_assoc, length_push, take-append-le, get_or_append_left}
use Rattle.std.proofs.lemmas.List.Sums.{fold-append}
use Rattle.step_buffers.specs.declared.moves.Done.{Done}
use Rattle.locked_recorder.specs.declared.errors.DriveStop.TheVariants.{Held, Record}
use Rattle.locked_recorder.specs.declared.errors.RecordError.{RecordError}
use Rattle.locked_recorder.specs.Seats.{Turns, with_done}
use Rattle.locked_recorder.specs.Recorders.{Identity}
use Rattle.locked_recorder.specs.Choices.{IsChosenAnswer, IsChoiceRefusal}
use Rattle.locked_recorder.specs.Drives.{received, received_with, drive_move, IsMoved, IsDriven, IsStopped}

-- a seat after so many steps, of which it is known how many Receives were made in the round
pub record IsUnderWay (r : Identity) (patience steps before : ℕ) (old new : Turns) : Type 0 where
  pub driven : IsDriven r patience steps old new
  pub counted : before ≡ received driven.more

-- no step is made
pub IsUnderWay-none : (r : Identity) (patience : ℕ) (s : Turns) → IsUnderWay r patience 0 0 s s
IsUnderWay-none r patience s = record {
  driven = record {
    more = [];
    count = refl;
    appended = ap (λ done. record s { done = done }) (sym (append-nil s.done));
    answers = λ k d at. absurd (omega (arith, slice_get_within [] k d at));
    tag = λ positive. absurd (omega arith);
  };
  counted = refl;
}

received-push : (more : List Done) (d : Done) → received (more ++ d ∷ []) ≡ received_with (received more) d.step.act
received-push more d = fold-append (λ n x. received_with n x.step.act) 0 more (d ∷ [])

-- what holds of each thing done and of those before it holds still if it holds of one more
each-push : (P : List Done → Done → Type 0) (more : List Done) (x : Done) → ((k : ℕ) (d : Done) → slice_get more k ≡ Some d
    → P (take k more) d) → P more x → (k : ℕ) (d : Done) → slice_get (more ++ x ∷ []) k ≡ Some d → P (take k (more ++ x ∷ [])) d
each-push P more x each last k d at = go (nat_lt k (length more)) refl
  where
    go : (t : Bool) → nat_lt k (length more) ≡ t → P (take k (more ++ x ∷ [])) d
    go true test =
        let inside : k < length more = grind (arith, nat_tests) in
        let there : slice_get more k ≡ Some d =
        slice_get-get_or more k d inside
        ∙ ap Some (sym (get_or_append_left more (x ∷ []) d k inside) ∙ get_or_from_slice_get (more ++ x ∷ []) k d d at) in
        subst (λ front. P front d) (sym (take-append-le k more (x ∷ []) (omega arith))) (each k d there)
    go false test =
        let past : length more ≤ k = grind (arith, nat_tests) in
        let is : k ≡ length more = omega (arith, slice_get_within (more ++ x ∷ []) k d at, length_push more x) in
        let same : d ≡ x =
        sym (get_or_from_slice_get (more ++ x ∷ []) k d d at) ∙ ap (λ n. get_or (more ++ x ∷ []) n d) is ∙ get_or-append_seam more x [] d in
        let front : take k (more ++ x ∷ []) ≡ more = ap (λ n. take n (more ++ x ∷ [])) is ∙ take-append_seam more (x ∷ []) in
        subst (λ before. P before d) (sym front) (subst (λ y. P more y) (sym same) last)

-- one step more is made
pub IsUnderWay-more : (r : Identity) (patience steps before after : ℕ) (old mid new : Turns) → IsUnderWay r patience steps before old mid
    → mid.tag ≡ r.tag → IsMoved r patience before after mid new → IsUnderWay r patience (steps + 1) after old new
IsUnderWay-more r patience steps before after old mid new so tagged moved =
    let driven = so.driven in
    let more = driven.more in
    let done = moved.chosen.done in
    let tag : mid.tag ≡ old.tag = ap (λ (s : Turns). s.tag) driven.appended in
    let proc : mid.proc ≡ old.proc = ap (λ (s : Turns). s.proc) driven.appended in
    let next : IsChosenAnswer r old.proc (drive_move patience (received more)) done =
    subst (λ n. IsChosenAnswer r old.proc (drive_move patience n) done) so.counted
    (subst (λ p. IsChosenAnswer r p (drive_move patience before) done) proc moved.chosen.answer) in
    record {
      driven = record {
        more = more ++ done ∷ [];
        count = length_push more done ∙ ap (λ n. n + 1) driven.count;
        appended = moved.chosen.appended ∙ ap (λ (s : Turns). with_done s done) driven.appended
            ∙ ap (λ all. record old { done = all }) (append_assoc old.done more (done ∷ []));
        answers = each-push (λ front d. IsChosenAnswer r old.proc (drive_move patience (received front)) d) more done driven.answers next;
        tag = λ _. sym tag ∙ tagged;
      };
      counted = moved.counted ∙ ap (λ n. received_with n done.step.act) so.counted ∙ sym (received-push more done);
    }

-- the gate holds the processor back
pub IsStopped-held : (r : Identity) (patience steps : ℕ) (s : Turns) → IsStopped r patience steps s s (record { made = 0; why = Held })
IsStopped-held r patience steps s = record { driven = (IsUnderWay-none r patience s).driven; stop = refl }

-- the next step is refused
pub IsStopped-refused : (r : Identity) (patience steps made before : ℕ) (old new : Turns) (why : RecordError)
    → made < steps → IsUnderWay r patience made before old new
    → IsChoiceRefusal r new (drive_move patience before) why → IsStopped r patience steps old new (record { made = made; why = Record why })
IsStopped-refused r patience steps made before old new why short so refused = record {
  driven = so.driven;
  stop = (short, subst (λ n. IsChoiceRefusal r new (drive_move patience n) why) so.counted refused);
}
