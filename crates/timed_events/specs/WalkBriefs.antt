-- What the walks over events ask of each (own).
use Rattle.std.specs.Prelude.{ℕ, List, ◌∷◌, [], Option, None, Some, min, slice_index_or}
use Rattle.timed_events.specs.declared.walk_briefs.WalkBrief.{WalkBrief}
use Rattle.timed_events.specs.declared.events.Event.{Event}
use Rattle.timed_events.specs.Briefs.{sent_to}
use Rattle.timed_events.specs.Checks.{received_in}

-- 0 of no messages, 1 of one that an event sent, 2 of all else
abbrev pub count_of : List (Option ℕ) → ℕ
count_of [] = 0
count_of (None ∷ ms) = 2
count_of (Some s ∷ []) = 1
count_of (Some s ∷ m ∷ ms) = 2

-- the first message; 0 if there is none, or no event sent it
abbrev pub message_of : List (Option ℕ) → ℕ
message_of [] = 0
message_of (None ∷ ms) = 0
message_of (Some s ∷ ms) = s

-- an event's processor, and the one to which it sends, in a byte each; what it receives, if that is one message
abbrev pub walk_brief_of : Event → WalkBrief
walk_brief_of e = record {
  processor = min e.processor 255;
  to = min (sent_to e.act) 255;
  count = count_of (received_in e.act);
  message = message_of (received_in e.act);
}

-- the message of the event at a place, as a list
abbrev pub one_at : List WalkBrief → ℕ → List (Option ℕ)
one_at briefs place =
    let none : WalkBrief = record { processor = 0; to = 0; count = 0; message = 0 } in
    Some (slice_index_or briefs place none).message ∷ []
