-- Simulated runs: who crashes, and who is live.
use Rattle.std.specs.Prelude.{ℕ, ◌≡◌, ◌≤◌, List, Bool, All, not, ◌==◌, filter}
use Rattle.std.specs.List.{list_any, range_with_len}
use Rattle.command_options.specs.declared.simulations.Crash.{Crash}

-- whether a crash is one of p
abbrev pub is_crash_of : ℕ → Crash → Bool
is_crash_of p crash = crash.proc == p

-- whether p never crashes
abbrev pub is_live : List Crash → ℕ → Bool
is_live crashes p = not (list_any (is_crash_of p) crashes)

-- the live ones of n processors
abbrev pub live : ℕ → List Crash → List ℕ
live n crashes = filter (is_live crashes) (range_with_len 1 n)

-- p hasn't crashed by this tick
abbrev pub IsUp : List Crash → ℕ → ℕ → Type 0
IsUp crashes p tick = All (λ crash. crash.proc ≡ p → tick ≤ crash.tick) crashes
