-- The window of a log, as it is handed out.
use Rattle.std.specs.Prelude.{ℕ, ◌≡◌, ◌<◌, ◌≤◌, ◌⊎◌, List, Option, IfSome, Ok, Err, MatchBool, ⊤, length}
use Rattle.trace_text.specs.declared.byte_loops.TheConstants.{MAX_TEXT_BYTES}
use Rattle.event_log.specs.declared.refusals.LogError.{LogError}
use Rattle.event_log.specs.declared.refusals.LogError.TheVariants.{TooLarge}
use Rattle.event_log.specs.declared.times.LogEnd.{LogEnd}
use Rattle.event_log.specs.declared.times.TimeUnit.{TimeUnit}
use Rattle.event_log.specs.Naming.{is_memory}
use Rattle.log_windows.specs.declared.devices.WindowError.{WindowError}
use Rattle.log_windows.specs.declared.devices.WindowError.TheVariants as unread
use Rattle.log_windows.specs.declared.reading.LogWindow.{LogWindow}
use Rattle.log_windows.specs.declared.windows.Reading.{Reading}
use Rattle.log_windows.specs.Devices.{HasLongRecord}
use Rattle.log_windows.specs.KeptNames.{names_kept}
use Rattle.log_windows.specs.Lists.{spread_of}
use Rattle.log_windows.specs.Windows.{next_row, nothing_read, window_of}

-- the window is what is kept of the records that were read, without the received messages that it doesn't send
pub record IsKeptOf (r : Reading) (w : LogWindow) : Type 0 where
  pub kept : names_kept r.rows.sent r.rows.text ≡ Ok (record { text = w.text.items; unsent = w.unsent })
  pub places_are : w.places.items ≡ r.rows.places
  pub outside_are : w.outside ≡ r.rows.outside

-- the window has all events of a log that isn't too large, in which each send is to one node
pub record IsSpreadOf (text : List ℕ) (w : LogWindow) : Type 0 where
  pub small : length text ≤ MAX_TEXT_BYTES
  pub sent : List (List ℕ)
  pub outside : ℕ
  pub spread : spread_of text ≡ Ok
      (record { text = w.text.items; places = w.places.items; sent = sent; outside = outside })
  pub outside_are : w.outside ≡ 0
  pub unsent_are : w.unsent ≡ 0

-- why there is none: the text is too large, or else the first refusal
abbrev pub IsUnspread : List ℕ → LogError → Type 0
IsUnspread text why = ((MAX_TEXT_BYTES < length text) × (why ≡ TooLarge))
    ⊎ ((length text ≤ MAX_TEXT_BYTES) × (spread_of text ≡ Err why))

-- it isn't made for this reason, or out of memory
abbrev pub IsUnkept : Reading → LogError → Type 0
IsUnkept r why = MatchBool (is_memory why) ⊤ (names_kept r.rows.sent r.rows.text ≡ Err why)

-- the window is that of a text
pub record IsWindow (unit : Option TimeUnit) (from : LogEnd) (until : Option LogEnd) (text : List ℕ)
    (w : LogWindow) : Type 0 where
  pub read : Reading
  pub is : window_of unit from until text ≡ Ok read
  pub made : IsKeptOf read w

-- the same of a text, which is all that the device had, if that is known
pub record IsWindowOf (unit : Option TimeUnit) (from : LogEnd) (until : Option LogEnd) (known : Option (List ℕ))
    (w : LogWindow) : Type 0 where
  pub text : List ℕ
  pub is : IfSome known (λ bytes. text ≡ bytes)
  pub window : IsWindow unit from until text w

-- why a text has no window: the first record that is refused, what is kept of all, or a record that is too long
abbrev pub HasNoWindow : Option TimeUnit → LogEnd → Option LogEnd → List ℕ → LogError → Type 0
HasNoWindow unit from until text why =
    (window_of unit from until text ≡ Err why)
    ⊎ (((r : Reading) × (window_of unit from until text ≡ Ok r) × (names_kept r.rows.sent r.rows.text ≡ Err why))
    ⊎ ((why ≡ TooLarge) × HasLongRecord next_row (nothing_read unit from until) text))

-- the same; a failed read and out of memory may come anywhere
abbrev pub IsWindowRefusal : Option TimeUnit → LogEnd → Option LogEnd → WindowError → List ℕ → Type 0
IsWindowRefusal unit from until unread.Read text = ⊤
IsWindowRefusal unit from until (unread.Log why) text =
    MatchBool (is_memory why) ⊤ (HasNoWindow unit from until text why)
