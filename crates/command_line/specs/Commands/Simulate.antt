-- The command `simulate`: what it takes, and the job that its words give.
use Rattle.std.specs.Prelude.{ℕ, ◌≡◌, ◌+◌, ◌-◌, ◌^◌, ◌≤◌, ◌⊎◌, ◌++◌, if◌then◌else◌, [], ◌∷◌, All, List}
use Rattle.std.specs.Prelude.{Option, Some, None, codes, length, nat_lt, string_bytes, unwrap_or, ⊤}
use Rattle.std.specs.Str.{bytes_eq}
use Rattle.clap.specs.Words.{App, Row, Text, first_of}
use Rattle.step_trace.specs.declared.traces.TheConstants.{MAX_STEPS}
use Rattle.step_trace.specs.Configurations.{IsProc, Setup}
use Rattle.command_options.specs.Simulations.{live}
use Rattle.command_options.specs.declared.simulations.Crash.{Crash}
use Rattle.command_options.specs.declared.simulations.Schedule.{Schedule}
use Rattle.command_options.specs.declared.simulations.Schedule.TheVariants as schedule
use Rattle.command_options.specs.declared.simulations.StatedBounds.{StatedBounds}
use Rattle.command_options.specs.declared.simulations.SimulationOptions.{SimulationOptions}
use Rattle.command_options.specs.declared.simulations.TheConstants.{MAX_BOUND}
use Rattle.command_line.specs.declared.jobs.Job.{Job}
use Rattle.command_line.specs.declared.jobs.Job.TheVariants as job
use Rattle.command_line.specs.declared.jobs.simulate.SimulateNumbers.{SimulateNumbers}
use Rattle.command_line.specs.declared.jobs.simulate.TheConstants.{MAX_PATIENCE}
use Rattle.command_line.specs.declared.line_errors.LineError.{LineError}
use Rattle.command_line.specs.declared.line_errors.LineError.TheVariants as unread
use Rattle.command_line.specs.Answers.{Given, ◌>>=◌, answers}
use Rattle.command_line.specs.Arguments.{command_app, number_in, number_rule, option_rule, optional_number_in}
use Rattle.command_line.specs.Arguments.{optional_number_rule, optional_rule}
use Rattle.command_line.specs.CrashLists.{IsCrashList}
use Rattle.command_line.specs.RunJobs.{IsConfigFault, IsConfigOf}

-- simulate --nodes N --faults T --values V1,..,VN --patience P --steps S --seed K --schedule NAME
-- --gst G --delta D --phi F --crash P@TICK,.. --loss PERCENT
abbrev pub simulate_app : App
simulate_app = command_app (codes "simulate") (number_rule (codes "nodes") 0 (2 ^ 64 - 1)
    ∷ number_rule (codes "faults") 0 (2 ^ 64 - 1) ∷ option_rule (codes "values")
    ∷ number_rule (codes "patience") 1 MAX_PATIENCE ∷ number_rule (codes "steps") 0 MAX_STEPS
    ∷ number_rule (codes "seed") 0 (2 ^ 64 - 1) ∷ optional_rule (codes "schedule")
    ∷ optional_number_rule (codes "gst") 0 MAX_BOUND ∷ optional_number_rule (codes "delta") 1 MAX_BOUND
    ∷ optional_number_rule (codes "phi") 1 MAX_BOUND
    ∷ optional_rule (codes "crash") ∷ optional_number_rule (codes "loss") 0 100 ∷ [])

-- the schedule of this name; random without one
abbrev pub schedule_of : Option Text → Option Schedule
schedule_of None = Some schedule.Random
schedule_of (Some name) = if bytes_eq name (codes "turns") then Some schedule.Turns
    else (if bytes_eq name (codes "random") then Some schedule.Random
    else (if bytes_eq name (codes "bursts") then Some schedule.Bursts else None))

-- these three numbers state the bounds; none of them states none
abbrev pub AreStated : Option ℕ → Option ℕ → Option ℕ → Option StatedBounds → Type 0
AreStated (Some gst) (Some delta) (Some phi) (Some b) = (b.gst ≡ gst) × (b.delta ≡ delta) × (b.phi ≡ phi)
AreStated None None None None = ⊤
AreStated _ _ _ _ = ⊥

-- the words in which a schedule of another name is refused
abbrev pub bad_schedule_words : List ℕ
bad_schedule_words = codes "synchrony: bad --schedule"
    ++ (10 ∷ codes "synchrony: --schedule takes turns, random or bursts")

-- there is no schedule of this name; or out of memory
abbrev pub IsScheduleFault : Option Text → LineError → Type 0
IsScheduleFault name (unread.Refused words) = (schedule_of name ≡ None) × (string_bytes words ≡ bad_schedule_words)
IsScheduleFault name unread.Memory = ⊤

-- the crashes that are named, if any
abbrev pub AreNamed : Option Text → List Crash → Type 0
AreNamed None crashes = crashes ≡ []
AreNamed (Some text) crashes = IsCrashList text crashes

-- the words in which a list of crashes is refused that is none, or that doesn't fit the processors
abbrev pub bad_crash_words : List ℕ
bad_crash_words = codes "synchrony: bad --crash"
    ++ (10 ∷ codes "synchrony: --crash takes P@TICK with one comma between each two, each P once and from 1 to N")

-- the text lists no crashes; or out of memory
abbrev pub IsCrashListFault : Option Text → LineError → Type 0
IsCrashListFault name (unread.Refused words) = ((crashes : List Crash) → ¬ AreNamed name crashes)
    × (string_bytes words ≡ bad_crash_words)
IsCrashListFault name unread.Memory = ⊤

-- no more crash than may be faulty
abbrev pub AreFew : Setup → List Crash → Type 0
AreFew config crashes = config.n ≤ length (live config.n crashes) + config.t

-- each is a crash of a processor, and there are as many as processors that crash, so no two of one
abbrev pub AreOfEach : Setup → List Crash → Type 0
AreOfEach config crashes = All (λ crash. IsProc config crash.proc) crashes
    × (length crashes + length (live config.n crashes) ≡ config.n)

-- the words in which too many crashes are refused
abbrev pub too_many_crashes_words : List ℕ
too_many_crashes_words = codes "synchrony: bad --crash"
    ++ (10 ∷ codes "synchrony: more processors crash than may be faulty")

-- more crash than may be faulty, or else they aren't one of a processor each; or out of memory
abbrev pub IsCrashFault : Setup → List Crash → LineError → Type 0
IsCrashFault config crashes (unread.Refused words) =
    (¬ AreFew config crashes × (string_bytes words ≡ too_many_crashes_words))
    ⊎ (AreFew config crashes × ¬ AreOfEach config crashes × (string_bytes words ≡ bad_crash_words))
IsCrashFault config crashes unread.Memory = ⊤

-- the words in which bounds are refused of which one is missing, and a processor bound that no schedule keeps
abbrev pub bad_bounds_words : List ℕ
bad_bounds_words = codes "synchrony: bad --gst"
    ++ (10 ∷ codes "synchrony: --gst, --delta and --phi are given together or not at all")

abbrev pub bad_phi_words : List ℕ
bad_phi_words = codes "synchrony: bad --phi"
    ++ (10 ∷ codes "synchrony: one processor steps in each tick, so --phi is at least the number of those that don't crash")

-- the words in which these bounds are refused if so many processors are live; none if they aren't refused
abbrev pub bounds_refusal : ℕ → Option ℕ → Option ℕ → Option ℕ → Option (List ℕ)
bounds_refusal lives (Some gst) (Some delta) (Some phi) = if nat_lt phi lives then Some bad_phi_words else None
bounds_refusal lives None None None = None
bounds_refusal lives _ _ _ = Some bad_bounds_words

-- they are refused in these words; or out of memory
abbrev pub IsBoundsFault : ℕ → Option ℕ → Option ℕ → Option ℕ → LineError → Type 0
IsBoundsFault lives gst delta phi (unread.Refused words) =
    bounds_refusal lives gst delta phi ≡ Some (string_bytes words)
IsBoundsFault lives gst delta phi unread.Memory = ⊤

-- The job is the simulation with these numbers, of the configuration with these values, by this schedule, with these
-- crashes.
pub record IsSimulationOf (x : SimulateNumbers) (values : List ℕ) (name crash : Option Text)
    (o : SimulationOptions) : Type 0 where
  pub config : IsConfigOf x.n x.t values o.config
  pub patience_is : o.patience ≡ x.patience
  pub steps_is : o.steps ≡ x.steps
  pub seed_is : o.seed ≡ x.seed
  pub schedule_is : schedule_of name ≡ Some o.schedule
  pub bounds_are : AreStated x.gst x.delta x.phi o.bounds
  pub crashes_are : AreNamed crash o.crashes.items
  pub one_each : AreOfEach o.config o.crashes.items
  pub loss_is : o.loss ≡ unwrap_or x.loss 0

abbrev pub IsSimulation : SimulateNumbers → List ℕ → Option Text → Option Text → Job → Type 0
IsSimulation x values name crash (job.Simulate o) = IsSimulationOf x values name crash o
IsSimulation x values name crash _ = ⊥

-- There is such a schedule, but the crashes are no list.
pub record IsOfNoCrashes (name crash : Option Text) (why : LineError) : Type 0 where
  pub schedule : Schedule
  pub scheduled : schedule_of name ≡ Some schedule
  pub refused : IsCrashListFault crash why

-- Schedule and crashes are what they should be, but there is no such configuration.
pub record IsOfNoConfig (x : SimulateNumbers) (values : List ℕ) (name crash : Option Text)
    (why : LineError) : Type 0 where
  pub schedule : Schedule
  pub scheduled : schedule_of name ≡ Some schedule
  pub crashes : List Crash
  pub named : AreNamed crash crashes
  pub refused : IsConfigFault x.n x.t values why

-- There is such a configuration too, but the bounds are refused for its live processors, or else the crashes are.
pub record IsUnkept (x : SimulateNumbers) (values : List ℕ) (name crash : Option Text) (why : LineError) : Type 0 where
  pub schedule : Schedule
  pub scheduled : schedule_of name ≡ Some schedule
  pub crashes : List Crash
  pub named : AreNamed crash crashes
  pub config : Setup
  pub configured : IsConfigOf x.n x.t values config
  pub refused : IsBoundsFault (length (live config.n crashes)) x.gst x.delta x.phi why
      ⊎ ((bounds_refusal (length (live config.n crashes)) x.gst x.delta x.phi ≡ None)
      × IsCrashFault config crashes why)

-- the first refusal: of the schedule, the list of crashes, the configuration, the bounds, or who crashes; or out of
-- memory
abbrev pub IsSimulationFault : SimulateNumbers → List ℕ → Option Text → Option Text → LineError → Type 0
IsSimulationFault x values name crash (unread.Refused words) =
    IsScheduleFault name (unread.Refused words)
    ⊎ (IsOfNoCrashes name crash (unread.Refused words) ⊎ (IsOfNoConfig x values name crash (unread.Refused words)
    ⊎ IsUnkept x values name crash (unread.Refused words)))
IsSimulationFault x values name crash unread.Memory = ⊤

-- what the command line gives with these numbers
abbrev pub simulate_gives : SimulateNumbers → List ℕ → Option Text → Option Text → Given → Type 0
simulate_gives x values name crash =
    answers (IsSimulation x values name crash) (IsSimulationFault x values name crash)

-- what the rows below `simulate` give
abbrev pub simulate_given : List Row → Given → Type 0
simulate_given rows = do
  values ← first_of (codes "values") rows
  n ← number_in rows (codes "nodes") 0 (2 ^ 64 - 1)
  t ← number_in rows (codes "faults") 0 (2 ^ 64 - 1)
  patience ← number_in rows (codes "patience") 1 MAX_PATIENCE
  steps ← number_in rows (codes "steps") 0 MAX_STEPS
  seed ← number_in rows (codes "seed") 0 (2 ^ 64 - 1)
  gst ← optional_number_in rows (codes "gst") 0 MAX_BOUND
  delta ← optional_number_in rows (codes "delta") 1 MAX_BOUND
  phi ← optional_number_in rows (codes "phi") 1 MAX_BOUND
  loss ← optional_number_in rows (codes "loss") 0 100
  simulate_gives (record {
    n = n;
    t = t;
    patience = patience;
    steps = steps;
    seed = seed;
    gst = gst;
    delta = delta;
    phi = phi;
    loss = loss;
  }) values (first_of (codes "schedule") rows) (first_of (codes "crash") rows)
