-- A window that is read from a device.
use Rattle.std.proofs.Common.{◌≡◌, List, ℕ, Option, Some, None, IfSome, Ok, Err, inl, inr, subst}
use Rattle.trace_text.specs.Records.{after_records, records_of_text}
use Rattle.trace_text.proofs.TakenRecords.{unless}
use Rattle.event_log.specs.declared.refusals.LogError.{LogError}
use Rattle.event_log.specs.declared.refusals.LogError.TheVariants.{Memory}
use Rattle.event_log.specs.declared.times.LogEnd.{LogEnd}
use Rattle.event_log.specs.declared.times.TimeUnit.{TimeUnit}
use Rattle.event_log.specs.Naming.{is_memory}
use Rattle.log_windows.specs.declared.devices.WindowError.{WindowError}
use Rattle.log_windows.specs.declared.devices.WindowError.TheVariants as unread
use Rattle.log_windows.specs.declared.reading.LogWindow.{LogWindow}
use Rattle.log_windows.specs.declared.windows.Reading.{Reading}
use Rattle.log_windows.specs.Devices.{HasLongRecord, HasRefusal, IsRowRefusal, IsWholeRead}
use Rattle.log_windows.specs.LogWindows.{HasNoWindow, IsKeptOf, IsUnkept, IsWindowOf, IsWindowRefusal}
use Rattle.log_windows.specs.Windows.{next_row, nothing_read}

-- out of memory may come anywhere
pub memory-anywhere : (unit : Option TimeUnit) (from : LogEnd) (until : Option LogEnd) (known : Option (List ℕ))
    → IfSome known (IsWindowRefusal unit from until (unread.Log Memory))
memory-anywhere unit from until None = tt
memory-anywhere unit from until (Some text) = tt

-- a record is refused
window-refused : (unit : Option TimeUnit) (from : LogEnd) (until : Option LogEnd) (text : List ℕ) (start : Reading) (why : LogError)
    → start ≡ nothing_read unit from until → HasRefusal next_row start text why → HasNoWindow unit from until text why
window-refused unit from until text start why s (inl k) = inl (subst (λ r. after_records next_row r (records_of_text text) ≡ Err why) s k)
window-refused unit from until text start why s (inr k) = inr (inr (k.0, subst (λ r. HasLongRecord next_row r text) s k.1))

pub row-refused : (unit : Option TimeUnit) (from : LogEnd)
    (until : Option LogEnd) (known : Option (List ℕ)) (start : Reading) (e : WindowError) → start ≡ nothing_read unit from until
    → IfSome known (IsRowRefusal next_row start e) → IfSome known (IsWindowRefusal unit from until e)
row-refused unit from until None start e s h = tt
row-refused unit from until (Some text) start unread.Read s h = tt
row-refused unit from until (Some text) start (unread.Log why) s h =
    unless (is_memory why) _ _ (window-refused unit from until text start why s) h

-- what is kept of all records is refused
pub kept-refused : (unit : Option TimeUnit) (from : LogEnd)
    (until : Option LogEnd) (known : Option (List ℕ)) (start r : Reading) (why : LogError) → start ≡ nothing_read unit from until
    → IsWholeRead next_row start r known → IsUnkept r why → IfSome known (IsWindowRefusal unit from until (unread.Log why))
kept-refused unit from until None start r why s w h = tt
kept-refused unit from until (Some text) start r why s w h = unless (is_memory why) _ _ (λ k. inr (inl (
  r,
  subst (λ t. after_records next_row (nothing_read unit from until) (records_of_text t) ≡ Ok r) w.is
      (subst (λ x. after_records next_row x (records_of_text w.text) ≡ Ok r) s w.leads),
  k,
))) h

-- the window is that of the text
pub window-read : (unit : Option TimeUnit) (from : LogEnd)
    (until : Option LogEnd) (known : Option (List ℕ)) (start r : Reading) (w : LogWindow) → start ≡ nothing_read unit from until
    → IsWholeRead next_row start r known → IsKeptOf r w → IsWindowOf unit from until known w
window-read unit from until known start r w s h k = record {
  text = h.text;
  is = h.is;
  window = record { read = r; is = subst (λ x. after_records next_row x (records_of_text h.text) ≡ Ok r) s h.leads; made = k };
}
