-- Why the words of a simulation are refused.
use Rattle.std.proofs.Common.{◌≡◌, ℕ, List, length, Option, None, Some, inr}
use Rattle.clap.specs.Words.{Text}
use Rattle.step_trace.specs.Configurations.{Setup}
use Rattle.command_options.specs.Simulations.{live}
use Rattle.command_options.specs.declared.simulations.Crash.{Crash}
use Rattle.command_options.specs.declared.simulations.Schedule.{Schedule}
use Rattle.command_line.specs.declared.jobs.simulate.SimulateNumbers.{SimulateNumbers}
use Rattle.command_line.specs.declared.line_errors.LineError.{LineError}
use Rattle.command_line.specs.declared.line_errors.LineError.TheVariants as unread
use Rattle.command_line.specs.RunJobs.{IsConfigOf}
use Rattle.command_line.specs.Commands.Simulate.{AreNamed, IsCrashFault, IsSimulationFault, bounds_refusal, schedule_of}

-- all else is right, but who crashes isn't
pub of_crashes : (x : SimulateNumbers) (values : List ℕ) (name crash : Option Text) (why : LineError)
    → (schedule : Schedule) → schedule_of name ≡ Some schedule → (crashes : List Crash) → AreNamed crash crashes
    → (config : Setup) → IsConfigOf x.n x.t values config
    → bounds_refusal (length (live config.n crashes)) x.gst x.delta x.phi ≡ None → IsCrashFault config crashes why
    → IsSimulationFault x values name crash why
of_crashes x values name crash (unread.Refused words) schedule scheduled crashes named config configured kept refused =
    inr (inr (inr (record {
      schedule = schedule;
      scheduled = scheduled;
      crashes = crashes;
      named = named;
      config = config;
      configured = configured;
      refused = inr (kept, refused);
    })))
of_crashes x values name crash unread.Memory schedule scheduled crashes named config configured kept refused = tt
