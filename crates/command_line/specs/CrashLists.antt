-- Crashes as a command line lists them.
use Rattle.std.specs.Prelude.{ℕ, ◌<◌, ◌^◌, ◌++◌, ◌∷◌, List, decimal}
use Rattle.command_options.specs.declared.simulations.Crash.{Crash}
use Rattle.command_line.specs.CommaLists.{IsCommaList}

-- its processor and its tick are numbers of 64 bits
abbrev pub IsCrash64 : Crash → Type 0
IsCrash64 crash = (crash.proc < 2 ^ 64) × (crash.tick < 2 ^ 64)

-- a crash is written P@TICK
abbrev pub crash_text : Crash → List ℕ
crash_text crash = decimal crash.proc ++ (64 ∷ decimal crash.tick)

-- the text lists these crashes
abbrev pub IsCrashList : List ℕ → List Crash → Type 0
IsCrashList = IsCommaList IsCrash64 crash_text
