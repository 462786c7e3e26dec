-- The log that a text and options give.
use Rattle.std.specs.Prelude.{ℕ, ◌≡◌, List, [], Option, Result, Err, option_map, unwrap_or, MatchBool, ⊤}
use Rattle.std.specs.Borrow.{Bor}
use Rattle.event_log.specs.declared.options.Options.{Options}
use Rattle.event_log.specs.declared.refusals.LogError.{LogError}
use Rattle.event_log.specs.Logs.{SeenLog}
use Rattle.event_log.specs.Naming.{is_memory}
use Rattle.event_log.specs.Stages.{staged_log}

-- the events that the records of a text give, or why they give none; if nodes are listed, these are numbered first
pub record IsRead (o : Options) (text : List ℕ) (answer : Result SeenLog LogError) : Type 0 where
  pub listed : Option (Bor (List (List ℕ)))
  pub same : option_map (λ nodes. nodes.now) listed ≡ o.nodes
  pub staged : staged_log o.unit listed (unwrap_or o.nodes []) text ≡ answer

-- the events aren't read for this reason, or out of memory
abbrev pub IsReadRefusal : Options → List ℕ → LogError → Type 0
IsReadRefusal o text why = MatchBool (is_memory why) ⊤ (IsRead o text (Err why))
