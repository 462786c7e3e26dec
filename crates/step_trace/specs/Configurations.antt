-- Configurations (section 2: N processors of which at most t are faulty, each with an initial value).
use Rattle.std.specs.Prelude.{ℕ, ◌≡◌, ◌+◌, ◌*◌, ◌≤◌, List, length, Option, Some, None}
use Rattle.std.specs.Prelude.{nat_lt, nat_le, Bool, ◌&&◌, ◌==◌, ◌||◌, if◌then◌else◌}
use Rattle.step_trace.specs.declared.configurations.TheConstants.{MIN_PROCESSORS, MAX_PROCESSORS}
use Rattle.step_trace.specs.declared.configurations.ConfigError.{ConfigError}
use Rattle.step_trace.specs.declared.configurations.ConfigError.TheVariants.{BadSize, BadFaults, BadInit}

-- how many processors there are, how many may be faulty, and the initial value of each
pub record Setup : Type 0 where
  pub n : ℕ
  pub t : ℕ
  pub init : List ℕ

-- a configuration within its limits (the limits of n are own)
pub record IsSetup (c : Setup) : Type 0 where
  pub least : MIN_PROCESSORS ≤ c.n
  pub most : c.n ≤ MAX_PROCESSORS
  pub faults : 2 * c.t + 1 ≤ c.n
  pub values : length c.init ≡ c.n

-- p is a processor of the configuration
abbrev pub IsProc : Setup → ℕ → Type 0
IsProc c p = (1 ≤ p) × (p ≤ c.n)

abbrev pub is_proc : Setup → ℕ → Bool
is_proc c p = nat_lt 0 p && nat_le p c.n

-- the first reason against a configuration with so many initial values, if there is one
abbrev pub config_refusal : ℕ → ℕ → ℕ → Option ConfigError
config_refusal n t values =
    if nat_lt n MIN_PROCESSORS || nat_lt MAX_PROCESSORS n then Some BadSize
    else if nat_lt n (2 * t + 1) then Some BadFaults
    else if values == n then None
    else Some BadInit
