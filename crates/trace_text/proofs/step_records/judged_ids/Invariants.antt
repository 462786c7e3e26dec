use Rattle.std.proofs.Common.{◌≡◌, ◌<◌, ℕ, List, Some, length, map}
use Rattle.std.specs.Prelude.{IsTrue}
use Rattle.trace_text.specs.TextRefusals.{numbers_of, begins_with_number, parts_of}
use Rattle.trace_text.specs.JudgedIds.{AreKept}
use Rattle.trace_text.proofs.step_records.judged_ids.Given as goal

-- the numbers of the parts so far are kept as ids are judged, and the first part was a number
abbrev pub invariant-loop-part : goal.invariant-loop-part
invariant-loop-part l = (goal.iterator-loop-part).can_next l.part-iterator × (goal.iterator-loop-part).is_finite l.part-iterator
    × ((all : List ℕ) × (numbers_of (map (λ x. x.now) l.yielded) ≡ Some all) × AreKept all l.ids.items l.rising)
    × (0 < length l.yielded → IsTrue (begins_with_number (parts_of l.fn.field)))
