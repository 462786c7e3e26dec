use Rattle.std.proofs.Common.{◌≡◌, ◌∙◌, ◌++◌, Bool, true, rules, refl, sym}
use Rattle.std.specs.Prelude.{Err}
use Rattle.shared_reading.specs.Pieces.{IsUnmarked}
use Rattle.shared_reading.specs.DeviceTexts.{IsTaken}
use Rattle.shared_reading.specs.UnderWay.{bytes_of}
use Rattle.shared_reading.proofs.PartsRead.{faults-kept, no-fault, part-refused}
use Rattle.shared_reading.proofs.UnderWayRead.{moved, oldest-refused, oldest-taken, put-back}
use Rattle.shared_reading.proofs.shared_texts.take_oldest.Given as given
use Rattle.shared_reading.proofs.shared_texts.take_oldest.Goals as goal

pub returns-then-not-begins_unmarked-clause-goes_on : goal.returns-then-not-begins_unmarked-clause-goes_on
returns-then-not-begins_unmarked-clause-goes_on g c =
    let back = c.in_ok-put_back.ensures in
    λ known h. moved known _ c.args.progress.now _ _ _ (record {
      stage = refl;
      total = refl;
      bytes = put-back _ c.pop_front.new.self.items
          _ c.in-Some.oldest _ c.args.progress.now.rest.items _ c.in-Some.ensures.items c.join-bytes.ensures.same back.none back.rest;
    }) h

pub returns-in-Ok-true-clause-goes_on : goal.returns-in-Ok-true-clause-goes_on
returns-in-Ok-true-clause-goes_on g c =
    let begins : c.begins_unmarked.result ≡ true = search rules in
    let alone = rw c.in-Ok-true.field-0-test at c.in-Ok-true.ensures in
    let mark : IsUnmarked c.args.progress.now.rest.items = rw c.deref.ensures.value at c.begins_unmarked.ensures begins in
    λ known h. oldest-taken known _ c.args.progress.now _ _ c.pop_front.new.self.items c.in-Some.oldest c.in-Some.ensures.items refl refl
    (alone _ c.join-bytes.ensures.found) mark h

-- all that was read is refused
refused : (g : given.Over) (c : goal.After-drop-bytes-in-Err-1 g) → IsTaken c.args.progress.now.stage c.take_found.new.stage
    (bytes_of c.args.under_way.now.items ++ c.args.progress.now.rest.items) (Err c.in-Err.why)
refused g c =
    let begins : c.begins_unmarked.result ≡ true = search rules in
    let mark : IsUnmarked c.args.progress.now.rest.items = rw c.deref.ensures.value at c.begins_unmarked.ensures begins in
    oldest-refused _ c.join-bytes.result.found _ c.take_found.new.stage
    _ c.pop_front.new.self.items c.in-Some.oldest _ _ c.in-Some.ensures.items c.join-bytes.ensures.found c.in-Err.ensures mark

pub returns-in_ok-skip_rest-in-Err-clause-goes_on : goal.returns-in_ok-skip_rest-in-Err-clause-goes_on
returns-in_ok-skip_rest-in-Err-clause-goes_on g c =
    λ known h. part-refused known _ _ _ c.args.progress.now c.take_found.new.stage _ (refused g c) c.in_ok-skip_rest-in-Err.ensures.whole h

pub returns-in_ok-skip_rest-in-Err-clause-faults : goal.returns-in_ok-skip_rest-in-Err-clause-faults
returns-in_ok-skip_rest-in-Err-clause-faults g c = c.in_ok-skip_rest-in-Err.ensures.faults
    ∙ sym (faults-kept Bool c.in-Err.why _ (no-fault _ c.take_found.new.stage _ c.in-Err.why (refused g c)))
