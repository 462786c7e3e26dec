-- What a record of a log says about an event, or the first reason for which it is refused.
use Rattle.std.specs.Prelude.{ℕ, List, Option, Some, None, Result, Ok, Err, Bool}
use Rattle.std.specs.Prelude.{◌&&◌, ◌==◌, codes, length, if◌then◌else◌}
use Rattle.std.specs.Borrow.{Bor}
use Rattle.std.specs.Option.{ok_or}
use Rattle.std.specs.Str.{bytes_eq}
use Rattle.trace_text.specs.Records.{◌>>=◌, field_of}
use Rattle.event_log.specs.declared.columns.Columns.{Columns}
use Rattle.event_log.specs.declared.records.Rules.{Rules}
use Rattle.event_log.specs.declared.records.Told.{Told}
use Rattle.event_log.specs.declared.records.Verb.{Verb}
use Rattle.event_log.specs.declared.records.Verb.TheVariants as verb
use Rattle.event_log.specs.declared.refusals.LogError.{LogError}
use Rattle.event_log.specs.declared.refusals.LogError.TheVariants.{BadFields, BadTime, BadEvent, BadNode, BadMessage}
use Rattle.event_log.specs.declared.times.Moment.{Moment}
use Rattle.event_log.specs.declared.times.TimeKind.{TimeKind}
use Rattle.trace_text.specs.Names.{has_name, is_message_name}
use Rattle.trace_text.specs.Names.{is_node_name}
use Rattle.event_log.specs.Names.{are_message_names}
use Rattle.event_log.specs.Times.{moment_in, moment_of}

-- what a record says about an event
pub record Said : Type 0 where
  pub moment : Moment
  pub verb : Verb
  pub node : List ℕ
  pub to : List ℕ
  pub messages : List ℕ

-- what a contract sees of what the code keeps of a record
abbrev pub said : Told → Said
said told = record {
  moment = told.moment;
  verb = told.verb;
  node = told.node.now;
  to = told.to.now;
  messages = told.messages.now;
}

-- a time of the kind of the times, if that is settled
abbrev pub moment_as : Option TimeKind → List ℕ → Option Moment
moment_as None field = moment_of field
moment_as (Some kind) field = moment_in kind field

abbrev pub verb_of : List ℕ → Option Verb
verb_of field =
    if bytes_eq field (codes "send") then Some verb.Send
    else if bytes_eq field (codes "receive") then Some verb.Receive
    else None

-- whether a node may be named: if the nodes are listed, it is one of them
abbrev pub is_node : Option (Bor (List (List ℕ))) → List ℕ → Bool
is_node None name = is_node_name name
is_node (Some nodes) name = has_name nodes.now name

abbrev pub are_nodes_by : Verb → Option (Bor (List (List ℕ))) → Said → Bool
are_nodes_by verb.Send listed s = is_node listed s.node && is_node listed s.to
are_nodes_by verb.Receive listed s = is_node listed s.node

-- whether the nodes of an event may be named: its own, and the one that it sends to
abbrev pub are_nodes : Option (Bor (List (List ℕ))) → Said → Bool
are_nodes listed s = are_nodes_by s.verb listed s

-- the name that a refused node has; None if it is none of a node
abbrev pub name_in : List ℕ → Option (List ℕ)
name_in node = if is_node_name node then Some node else None

abbrev pub bad_node_by : Verb → Option (Bor (List (List ℕ))) → Said → Option (List ℕ)
bad_node_by verb.Send listed s = if is_node listed s.node then name_in s.to else name_in s.node
bad_node_by verb.Receive listed s = name_in s.node

-- the same of the first node of an event that may not be named
abbrev pub bad_node : Option (Bor (List (List ℕ))) → Said → Option (List ℕ)
bad_node listed s = bad_node_by s.verb listed s

abbrev pub are_messages_by : Verb → List ℕ → Bool
are_messages_by verb.Send field = is_message_name field
are_messages_by verb.Receive field = are_message_names field

-- a send names one message, a receive any number of them
abbrev pub are_messages : Said → Bool
are_messages s = are_messages_by s.verb s.messages

-- what the fields of a record say, once its time and its event are known
abbrev pub said_by : Columns → Moment → Verb → List (List ℕ) → Said
said_by columns moment verb fields = record {
  moment = moment;
  verb = verb;
  node = field_of fields columns.node;
  to = field_of fields columns.to;
  messages = field_of fields columns.message;
}

-- an event is accepted if its nodes may be named and its messages are names
abbrev pub accepted : Option (Bor (List (List ℕ))) → ℕ → Said → Result Said LogError
accepted listed number s =
    if are_nodes listed s then (if are_messages s then Ok s else Err (BadMessage number))
    else Err (BadNode number (bad_node listed s))

-- what the record of a number says, or the first refusal: its fields, its time, its event, its nodes, its messages
abbrev pub said_of : Rules → ℕ → List (List ℕ) → Result Said LogError
said_of rules number fields =
    if length fields == rules.columns.fields then
    (ok_or (moment_as rules.kind (field_of fields rules.columns.time)) (BadTime number) >>= λ moment.
    ok_or (verb_of (field_of fields rules.columns.event)) (BadEvent number)
    >>= λ verb. accepted rules.listed number (said_by rules.columns moment verb fields))
    else Err (BadFields number)
