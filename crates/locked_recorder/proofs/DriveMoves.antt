-- What a drive counts of a step.
use Rattle.std.proofs.Common.{ℕ, ◌≡◌, ◌+◌, ◌-◌, ◌==◌, ◌&&◌, Bool, true, false, Option, Some, None, is_some, option_map, if◌then◌else◌, List, [], ◌∷◌, ◌++◌, length, get_or, sym, ap, subst, ◌∙◌, arith}
use Rattle.std.specs.Prelude.{slice_get}
use Rattle.std.proofs.Math.Seq.{get_or-append_seam}
use Rattle.std.proofs.lemmas.List.{length_push}
use Rattle.std.proofs.lemmas.Option.{get_or_from_slice_get}
use Rattle.step_trace.specs.declared.steps.Step.{Step}
use Rattle.step_trace.specs.declared.steps.Act.TheVariants as act
use Rattle.step_buffers.specs.declared.moves.Done.{Done}
use Rattle.step_buffers.specs.declared.moves.Move.{Move}
use Rattle.step_buffers.specs.declared.moves.Move.TheVariants.{Send, Receive}
use Rattle.step_buffers.specs.declared.moves.Take.TheVariants.{All}
use Rattle.step_buffers.specs.Buffers.{buffer}
use Rattle.step_buffers.specs.Moves.{next_send, step_of, taken_ids}
use Rattle.locked_recorder.specs.Seats.{Turns}
use Rattle.locked_recorder.specs.Recorders.{Identity}
use Rattle.locked_recorder.specs.Choices.{chosen, IsChosen, IsChosenAnswer}
use Rattle.locked_recorder.specs.Drives.{drive_move, received_with, IsMoved}

-- a Receive by such a choice ends the round if that was asked for
ends_as_asked : (r : Identity) (p : ℕ) (sends asked ends : Bool) (ids : List ℕ) (done : Done)
    → IsChosenAnswer r p (chosen sends (Receive All asked)) done → done.step.act ≡ act.Receive ends ids → ends ≡ asked
ends_as_asked r p sends asked ends ids done answer received = go (sends && is_some answer.to) answer.answer.step
  where
    before : List Step
    before = answer.answer.before

    of_send : (to : Option ℕ) → Some done.step ≡ option_map (λ t. record { proc = p; act = act.Send t }) to → ends ≡ asked
    of_send None is = cc
    of_send (Some t) is =
        let same : done.step ≡ record { proc = p; act = act.Send t } = cc in
        let acts = ap (λ (s : Step). s.act) same in
        cc

    go : (b : Bool) → Some done.step ≡ step_of r.config before p (if b then Send else Receive All asked) → ends ≡ asked
    go true is = of_send (next_send r.config before p) is
    go false is =
        let same : done.step ≡ record { proc = p; act = act.Receive asked (taken_ids All (buffer before p)) } = cc in
        let acts = ap (λ (s : Step). s.act) same in
        cc

-- what was done last is what was recorded
last_act : (r : Identity) (choice : Option ℕ → Move) (old new : Turns) (last : Done) → (made : IsChosen r choice old new)
    → slice_get new.done (length new.done - 1) ≡ Some last → made.done.step.act ≡ last.step.act
last_act r choice old new last made there =
    let all = old.done ++ made.done ∷ [] in
    let at : length all - 1 ≡ length old.done = omega (arith, length_push old.done made.done) in
    let found : slice_get all (length all - 1) ≡ Some last =
    subst (λ (s : Turns). slice_get s.done (length s.done - 1) ≡ Some last) made.appended there in
    let same : last ≡ made.done =
    sym (get_or_from_slice_get all (length all - 1) last last found)
    ∙ ap (λ n. get_or all n last) at ∙ get_or-append_seam old.done made.done [] last in
    ap (λ (d : Done). d.step.act) (sym same)

-- a Send isn't counted
pub IsMoved-sent : (r : Identity) (patience before : ℕ) (old new : Turns) (last : Done) (to : ℕ) → IsChosen r (drive_move patience before)
    old new → slice_get new.done (length new.done - 1) ≡ Some last → last.step.act ≡ act.Send to → IsMoved r patience before before old new
IsMoved-sent r patience before old new last to made there sent =
    let acts = last_act r (drive_move patience before) old new last made there ∙ sent in
    record { chosen = made; counted = ap (received_with before) (sym acts) }

-- a Receive is counted, and begins the next round with none if it ends its own
pub IsMoved-received : (r : Identity) (patience before after : ℕ) (old new : Turns) (last : Done) (ends : Bool) (ids : List ℕ)
    → IsChosen r (drive_move patience before) old new → slice_get new.done (length new.done - 1) ≡ Some last → last.step.act
    ≡ act.Receive ends ids → after ≡ (if before + 1 == patience then 0 else before + 1) → IsMoved r patience before after old new
IsMoved-received r patience before after old new last ends ids made there received counted =
    let acts = last_act r (drive_move patience before) old new last made there ∙ received in
    let asked = ends_as_asked r old.proc (before == 0) (before + 1 == patience) ends ids made.done made.answer acts in
    record {
      chosen = made;
      counted = counted ∙ ap (λ (b : Bool). if b then 0 else before + 1) (sym asked)
          ∙ ap (received_with before) (sym acts);
    }
