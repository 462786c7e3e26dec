-- What a table says about a trace (own).
use Rattle.std.specs.Prelude.{ℕ, List, Option}
use Rattle.step_trace.specs.Traces.{Recorded}

-- what it says about a step: the number of its record in the log, if it has one; what its message is called, if it is a
-- Send; when its tick begins, and when it was made by the clock, each if that is a number of 64 bits
pub record Said : Type 0 where
  pub source : Option ℕ
  pub message : List ℕ
  pub begins : Option ℕ
  pub time : Option ℕ

-- what the processors are called, in their order, with an empty name for one that no record names; and what is said
-- about each step
pub record Told : Type 0 where
  pub nodes : List (List ℕ)
  pub rows : List Said

-- the trace that a table is read for, and what it says so far; None before the header
pub record SoFar : Type 0 where
  pub trace : Recorded
  pub told : Option Told
