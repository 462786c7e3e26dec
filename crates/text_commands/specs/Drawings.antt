-- What the program makes of a trace in a picture.
use Rattle.std.specs.Prelude.{ℕ, ◌≡◌, ◌||◌, Bool, true, false, is_some, List, [], Option, Some}
use Rattle.std.specs.Prelude.{None, Result, Ok, Err, String, option_map, string_bytes, ⊤}
use Rattle.std.specs.Option.{unwrap_or}
use Rattle.step_trace.specs.declared.rows.Row.{Row}
use Rattle.step_trace.specs.Members.{all_to}
use Rattle.step_trace.specs.Traces.{Recorded}
use Rattle.step_trace.specs.Fronts.{IsReport}
use Rattle.picture_marks.specs.declared.pictures.Picture.{Picture}
use Rattle.picture_marks.specs.declared.windows.Window.{Window}
use Rattle.picture_marks.specs.declared.windows.WindowError.{WindowError}
use Rattle.picture_marks.specs.declared.windows.WindowError.TheVariants as no_window
use Rattle.picture_marks.specs.Marks.{ShowsExactly, ShowsMisses, ShowsGaps}
use Rattle.run_words.specs.declared.names.NamesError.{NamesError}
use Rattle.run_words.specs.declared.names.NamesError.TheVariants as no_names
use Rattle.run_words.specs.declared.lane_lists.LanesError.{LanesError}
use Rattle.run_words.specs.declared.lane_lists.LanesError.TheVariants as no_lanes
use Rattle.run_words.specs.LaneLists.{AreLanes, IsLanesRefusal}
use Rattle.run_words.specs.Names.{AreNames, IsNamesRefusal, parts_of}
use Rattle.picture_marks.specs.Pictures.{Shows}
use Rattle.picture_marks.specs.Windows.{window_of}
use Rattle.run_page.specs.EvidenceTicks.{IsEvidenceWindow}
use Rattle.step_tables.specs.Told.{Told}
use Rattle.command_options.specs.declared.Drawing.{Drawing}
use Rattle.command_faults.specs.declared.faults.Fault.{Fault}
use Rattle.command_faults.specs.declared.faults.Fault.TheVariants as fault
use Rattle.command_faults.specs.declared.faults.MemberOutside.{MemberOutside}
use Rattle.command_faults.specs.declared.faults.PictureOption.{PictureOption}
use Rattle.command_faults.specs.declared.faults.PictureOption.TheVariants as option
use Rattle.command_faults.specs.declared.faults.SetOption.TheVariants as set_option
use Rattle.text_verdicts.specs.Texts.{HasCorrect}
use Rattle.text_commands.specs.Answers.{IsOutside}
use Rattle.text_commands.specs.LogTables.{HasTable, IsTableFault, told_by}
use Rattle.text_commands.specs.declared.drawings.ToldDrawing.{ToldDrawing}

abbrev pub are_names_in : {B : Type 0} → Option (String B) → ℕ → Type 0
are_names_in None count = ⊤
are_names_in (Some list) count = AreNames count (parts_of (string_bytes list))

-- the names that are listed; none if there is no list
abbrev pub names_of_list : {B : Type 0} → Option (String B) → List (List ℕ)
names_of_list None = []
names_of_list (Some list) = parts_of (string_bytes list)

-- the names of the processors: those that are listed; else those of the table, if there is one
abbrev pub names_told : Option Told → List (List ℕ)
names_told None = []
names_told (Some told) = told.nodes

abbrev pub names_by : {B : Type 0} → Option (String B) → Option Told → List (List ℕ)
names_by None table = names_told table
names_by (Some list) table = parts_of (string_bytes list)

-- the drawing lists no names, or as many as there are processors
abbrev pub AreNamesFor : Drawing → ℕ → Type 0
AreNamesFor d count = are_names_in d.names count

-- The set has the processors that are listed, by these names or by numbers up to `count`; all if none are listed.
abbrev pub AreLanesIn : {B : Type 0} → Option (String B) → List (List ℕ) → ℕ → ℕ → Type 0
AreLanesIn None names count set = set ≡ all_to count
AreLanesIn (Some list) names count set = AreLanes names (parts_of (string_bytes list)) count set

-- the set has the processors whose lanes are asked for, if there are `count`
abbrev pub AreLanesFor : Drawing → Option Told → ℕ → ℕ → Type 0
AreLanesFor d table count set = AreLanesIn d.lanes (names_by d.names table) count set

-- the ticks that are asked for, of a trace with this last tick; if none are, its first ones
abbrev pub window_for : Drawing → ℕ → Result Window WindowError
window_for d last = window_of last d.from d.to

-- A window of the trace is asked for, lanes of its processors, and as many names as there are processors, or none. The
-- table, if there is one, says this about the trace.
pub record IsDrawable (d : Drawing) (table : Option Told) (t : Recorded) : Type 0 where
  pub named : AreNamesFor d t.config.n
  pub lanes : ℕ
  pub listed : AreLanesFor d table t.config.n lanes
  pub window : Window
  pub asked : window_for d t.last ≡ Ok window

-- whether a first or a last tick is asked for
abbrev pub asks_for_ticks : Drawing → Bool
asks_for_ticks d = is_some d.from || is_some d.to

-- The window that is drawn of a trace with these rows: the one that is asked for. If none is, it shows the first
-- evidence of the rows; and if there is no evidence, the first ticks.
pub record IsDrawnWindow (d : Drawing) (t : Recorded) (rows : List Row) (w : Window) : Type 0 where
  pub asked : Window
  pub fits : window_for d t.last ≡ Ok asked
  pub chosen : asks_for_ticks d ≡ true → w ≡ asked
  pub usual : asks_for_ticks d ≡ false → (e : Option Window) × IsEvidenceWindow t rows e × (w ≡ unwrap_or e asked)

-- The picture has the marks of the window that is drawn and of these lanes, with the rows of the trace's report.
pub record IsPictureFor (set : ℕ) (d : Drawing) (lanes : ℕ) (t : Recorded) (picture : Picture) : Type 0 where
  pub window : Window
  pub rows : List Row
  pub exact : IsReport set t rows
  pub drawn : IsDrawnWindow d t rows window
  pub shows : Shows t rows window lanes picture
  pub marks : ShowsExactly t window lanes picture
  pub misses : ShowsMisses t rows window lanes picture.misses.items
  pub gaps : ShowsGaps rows window lanes picture.gaps.items

-- The trace has all correct processors; the text of the table, if there is one, is the trace's; and the trace can be
-- drawn as asked. The text is left open: what a mark looks like is only tested.
pub record IsDrawingBy (d : Drawing) (text : Option (List ℕ)) (t : Recorded) (picture : List ℕ) : Type 0 where
  pub within : HasCorrect d.correct t
  pub tabled : HasTable text t
  pub drawable : IsDrawable d (told_by text t) t

-- the text of the table of a drawing
abbrev pub table_text_of : ToldDrawing → Option (List ℕ)
table_text_of d = option_map (λ text. text.items) d.table

abbrev pub IsDrawingOf : ToldDrawing → Recorded → List ℕ → Type 0
IsDrawingOf d = IsDrawingBy d.drawing (table_text_of d)

-- the option that a window is refused for
abbrev pub option_of : WindowError → PictureOption
option_of (no_window.BadFrom from last) = option.From from last
option_of (no_window.BadTo to from) = option.To to from

-- the fault that names are refused with, of so many processors
abbrev pub names_fault : ℕ → NamesError → Fault
names_fault count (no_names.WrongCount given) = fault.Picture (option.NameCount given count)
names_fault count (no_names.BadName place) = fault.Picture (option.BadName place)
names_fault count (no_names.SameName place) = fault.Picture (option.SameName place)
names_fault count no_names.Memory = fault.Memory

-- the fault that lanes are refused with, of so many processors
abbrev pub lanes_fault : ℕ → LanesError → Fault
lanes_fault count (no_lanes.NoLane place) = fault.Picture (option.NoLane place)
lanes_fault count (no_lanes.Above p) = fault.Set set_option.Lanes (record { member = p; count = count })
lanes_fault count no_lanes.Memory = fault.Memory

-- a fault of the window: it is for the option
abbrev pub IsWindowFault : Drawing → ℕ → Fault → Type 0
IsWindowFault d last w = (e : WindowError) × (window_for d last ≡ Err e) × (w ≡ fault.Picture (option_of e))

-- why there are no marks: the window, or out of memory
abbrev pub IsMarksFault : Drawing → ℕ → Fault → Type 0
IsMarksFault d last (fault.Picture (option.From from end)) = window_for d last ≡ Err (no_window.BadFrom from end)
IsMarksFault d last (fault.Picture (option.To to from)) = window_for d last ≡ Err (no_window.BadTo to from)
IsMarksFault d last fault.Memory = ⊤
IsMarksFault d last _ = ⊥

-- the drawing lists names, which are refused so
abbrev pub are_refused_in : {B : Type 0} → Option (String B) → ℕ → NamesError → Type 0
are_refused_in None count why = ⊥
are_refused_in (Some list) count why = IsNamesRefusal count (parts_of (string_bytes list)) why

-- a fault of the names: how many there are of how many processors, or the first that doesn't do
abbrev pub IsNamesFault : {B : Type 0} → Option (String B) → ℕ → Fault → Type 0
IsNamesFault names count (fault.Picture (option.NameCount given processors)) =
    (processors ≡ count) × are_refused_in names count (no_names.WrongCount given)
IsNamesFault names count (fault.Picture (option.BadName place)) = are_refused_in names count (no_names.BadName place)
IsNamesFault names count (fault.Picture (option.SameName place)) = are_refused_in names count (no_names.SameName place)
IsNamesFault names count fault.Memory = ⊤
IsNamesFault names count _ = ⊥

-- the drawing lists lanes, which are refused so
abbrev pub are_lanes_refused_in : {B : Type 0} → Option (String B) → List (List ℕ) → ℕ → LanesError → Type 0
are_lanes_refused_in None names count why = ⊥
are_lanes_refused_in (Some list) names count why = IsLanesRefusal names (parts_of (string_bytes list)) count why

-- a fault of the lanes: the first that is no processor's, or whose processor is above their number
abbrev pub IsLanesFault : {B : Type 0} → Option (String B) → List (List ℕ) → ℕ → Fault → Type 0
IsLanesFault lanes names count (fault.Picture (option.NoLane place)) =
    are_lanes_refused_in lanes names count (no_lanes.NoLane place)
IsLanesFault lanes names count (fault.Set set_option.Lanes o) =
    (o.count ≡ count) × are_lanes_refused_in lanes names count (no_lanes.Above o.member)
IsLanesFault lanes names count fault.Memory = ⊤
IsLanesFault lanes names count _ = ⊥

-- there are the names and the lanes that are asked for
abbrev pub HasLanes : Drawing → Option Told → ℕ → Type 0
HasLanes d table count = AreNamesFor d count × ((set : ℕ) × AreLanesFor d table count set)

-- why there is no picture of the trace: its names, or else its lanes, or its first tick, or its last one
abbrev pub IsUndrawnFor : Drawing → Option Told → Recorded → PictureOption → Type 0
IsUndrawnFor d table t (option.From from last) = HasLanes d table t.config.n
    × (window_for d t.last ≡ Err (no_window.BadFrom from last))
IsUndrawnFor d table t (option.To to from) = HasLanes d table t.config.n
    × (window_for d t.last ≡ Err (no_window.BadTo to from))
IsUndrawnFor d table t (option.NoLane place) = AreNamesFor d t.config.n
    × IsLanesFault d.lanes (names_by d.names table) t.config.n (fault.Picture (option.NoLane place))
IsUndrawnFor d table t o = IsNamesFault d.names t.config.n (fault.Picture o)

-- a lane is that of a processor which the trace hasn't
abbrev pub IsLaneOutside : Drawing → Option Told → Recorded → MemberOutside → Type 0
IsLaneOutside d table t o = AreNamesFor d t.config.n
    × IsLanesFault d.lanes (names_by d.names table) t.config.n (fault.Set set_option.Lanes o)

abbrev pub IsUndrawn : Drawing → Option Told → Recorded → Fault → Type 0
IsUndrawn d table t (fault.Picture o) = IsUndrawnFor d table t o
IsUndrawn d table t (fault.Set set_option.Lanes o) = IsLaneOutside d table t o
IsUndrawn d table t fault.Memory = ⊤
IsUndrawn d table t _ = ⊥

-- why the trace has no picture: a correct processor that it hasn't, or else the table, or an option, in this order
abbrev pub IsUndrawnBy : Drawing → Option (List ℕ) → Recorded → Fault → Type 0
IsUndrawnBy d text t (fault.Table why) = HasCorrect d.correct t × IsTableFault text t (fault.Table why)
IsUndrawnBy d text t (fault.Picture o) = HasCorrect d.correct t × HasTable text t × IsUndrawnFor d (told_by text t) t o
IsUndrawnBy d text t (fault.Set set_option.Lanes o) = HasCorrect d.correct t × HasTable text t
    × IsLaneOutside d (told_by text t) t o
IsUndrawnBy d text t w = IsOutside d.correct t w

abbrev pub IsUndrawnTrace : ToldDrawing → Recorded → Fault → Type 0
IsUndrawnTrace d = IsUndrawnBy d.drawing (table_text_of d)
