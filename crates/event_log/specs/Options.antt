-- The options of a log, as texts give them.
use Rattle.std.specs.Prelude.{ℕ, ◌≡◌, ◌≤◌, Bool, true, List, length, Option, Some, None}
use Rattle.std.specs.Prelude.{◌==◌, ◌&&◌, nat_lt, not, option_map, ⊤}
use Rattle.std.specs.List.{All, IsDistinct, slice_split}
use Rattle.std.specs.Str.{bytes_eq}
use Rattle.event_log.specs.declared.option_texts.OptionTexts.{OptionTexts}
use Rattle.event_log.specs.declared.options.Options.{Options}
use Rattle.event_log.specs.declared.options.OptionError.{OptionError}
use Rattle.event_log.specs.declared.options.OptionError.TheVariants as option
use Rattle.event_log.specs.declared.times.LogEnd.{LogEnd}
use Rattle.event_log.specs.declared.times.TimeUnit.{TimeUnit}
use Rattle.event_log.specs.declared.times.Width.{Width}
use Rattle.event_log.specs.declared.times.Width.TheVariants.{Units}
use Rattle.trace_text.specs.Names.{has_name, is_node_name}
use Rattle.event_log.specs.Times.{IsEnd, IsWidth, unit_of}

-- the parts of a text between its commas
abbrev pub parts_between_commas : List ℕ → List (List ℕ)
parts_between_commas text = slice_split (λ byte. byte == 44) text

-- 2 to 64 different names
pub record AreNodes (names : List (List ℕ)) : Type 0 where
  pub two : 2 ≤ length names
  pub few : length names ≤ 64
  pub each : All (λ name. is_node_name name ≡ true) names
  pub different : IsDistinct bytes_eq names

-- whether a name may be listed after these: it is one of a node, there are fewer than 64, and it is none of them
abbrev pub is_next_node : List (List ℕ) → List ℕ → Bool
is_next_node names name = is_node_name name && nat_lt (length names) 64 && not (has_name names name)

-- a text lists no nodes for this reason, or out of memory
abbrev pub IsNodeFault : Type 0 → OptionError → Type 0
IsNodeFault Why option.Nodes = Why
IsNodeFault Why option.Unit = ⊥
IsNodeFault Why option.Tick = ⊥
IsNodeFault Why option.Until = ⊥
IsNodeFault Why option.Idle = ⊥
IsNodeFault Why option.Memory = ⊤

-- the nodes that a text lists; nothing if there is no text
abbrev pub AreNodesIn : Option (List ℕ) → Option (List (List ℕ)) → Type 0
AreNodesIn None nodes = nodes ≡ None
AreNodesIn (Some text) nodes = AreNodes (parts_between_commas text) × (nodes ≡ Some (parts_between_commas text))

-- the unit that a text names; nothing if there is no text
abbrev pub IsUnitIn : Option (List ℕ) → Option TimeUnit → Type 0
IsUnitIn None unit = unit ≡ None
IsUnitIn (Some text) unit = (named : TimeUnit) × (unit_of text ≡ Some named) × (unit ≡ Some named)

-- the length of a tick that a text gives; 1 if there is no text
abbrev pub IsWidthIn : Option (List ℕ) → Width → Type 0
IsWidthIn None width = width ≡ Units 1
IsWidthIn (Some text) width = IsWidth text width

-- the end of the log that a text gives; nothing if there is no text
abbrev pub IsUntilIn : Option (List ℕ) → Option LogEnd → Type 0
IsUntilIn None until = until ≡ None
IsUntilIn (Some text) until = (end : LogEnd) × IsEnd text end × (until ≡ Some end)

-- the longest time without an event that a text gives; nothing if there is no text
abbrev pub IsIdleIn : Option (List ℕ) → Option Width → Type 0
IsIdleIn None idle = idle ≡ None
IsIdleIn (Some text) idle = (width : Width) × IsWidth text width × (idle ≡ Some width)

-- how a log is read: five texts, each of which may be left out, and four flags
pub record ToldOptions : Type 0 where
  pub nodes : Option (List ℕ)
  pub unit : Option (List ℕ)
  pub tick : Option (List ℕ)
  pub until : Option (List ℕ)
  pub idle : Option (List ℕ)
  pub spread : Bool
  pub align : Bool
  pub drop_lost : Bool
  pub merge : Bool

-- what the texts say
abbrev pub told_options : OptionTexts → ToldOptions
told_options texts = record {
  nodes = option_map (λ text. text.now) texts.nodes;
  unit = option_map (λ text. text.now) texts.unit;
  tick = option_map (λ text. text.now) texts.tick;
  until = option_map (λ text. text.now) texts.until;
  idle = option_map (λ text. text.now) texts.idle;
  spread = texts.spread;
  align = texts.align;
  drop_lost = texts.drop_lost;
  merge = texts.merge;
}

-- the options that they give
pub record AreOptions (told : ToldOptions) (o : Options) : Type 0 where
  pub nodes_are : AreNodesIn told.nodes o.nodes
  pub unit_is : IsUnitIn told.unit o.unit
  pub width_is : IsWidthIn told.tick o.width
  pub until_is : IsUntilIn told.until o.until
  pub idle_is : IsIdleIn told.idle o.idle
  pub spread_is : o.spread ≡ told.spread
  pub align_is : o.align ≡ told.align
  pub drop_is : o.drop_lost ≡ told.drop_lost
  pub merge_is : o.merge ≡ told.merge

-- a text that lists no nodes; one that names no unit; one that gives no length of a tick or of a silence; and one that
-- gives no end
abbrev pub HasBadNodes : Option (List ℕ) → Type 0
HasBadNodes nodes = (text : List ℕ) × (nodes ≡ Some text) × (¬ AreNodes (parts_between_commas text))

abbrev pub HasBadUnit : Option (List ℕ) → Type 0
HasBadUnit unit = (text : List ℕ) × (unit ≡ Some text) × (unit_of text ≡ None)

abbrev pub HasBadTick : Option (List ℕ) → Type 0
HasBadTick tick = (text : List ℕ) × (tick ≡ Some text) × ((width : Width) → ¬ IsWidth text width)

abbrev pub HasBadUntil : Option (List ℕ) → Type 0
HasBadUntil until = (text : List ℕ) × (until ≡ Some text) × ((end : LogEnd) → ¬ IsEnd text end)

-- why four texts give no unit, no length of a tick, no end and no length of a silence: the first that is bad, in this
-- order
abbrev pub IsTimeFault : Option (List ℕ) → Option (List ℕ) → Option (List ℕ) → Option (List ℕ) → OptionError → Type 0
IsTimeFault unit tick until idle option.Nodes = ⊥
IsTimeFault unit tick until idle option.Unit = HasBadUnit unit
IsTimeFault unit tick until idle option.Tick = (¬ HasBadUnit unit) × HasBadTick tick
IsTimeFault unit tick until idle option.Until = (¬ HasBadUnit unit) × (¬ HasBadTick tick) × HasBadUntil until
IsTimeFault unit tick until idle option.Idle = (¬ HasBadUnit unit) × (¬ HasBadTick tick) × (¬ HasBadUntil until)
    × HasBadTick idle
IsTimeFault unit tick until idle option.Memory = ⊥

-- why there are no options: the first text that is bad, in this order; or out of memory
abbrev pub IsOptionFault : ToldOptions → OptionError → Type 0
IsOptionFault told option.Nodes = HasBadNodes told.nodes
IsOptionFault told option.Unit = (¬ HasBadNodes told.nodes) × HasBadUnit told.unit
IsOptionFault told option.Tick = (¬ HasBadNodes told.nodes) × (¬ HasBadUnit told.unit) × HasBadTick told.tick
IsOptionFault told option.Until = (¬ HasBadNodes told.nodes) × (¬ HasBadUnit told.unit) × (¬ HasBadTick told.tick)
    × HasBadUntil told.until
IsOptionFault told option.Idle = (¬ HasBadNodes told.nodes) × (¬ HasBadUnit told.unit) × (¬ HasBadTick told.tick)
    × (¬ HasBadUntil told.until) × HasBadTick told.idle
IsOptionFault told option.Memory = ⊤
