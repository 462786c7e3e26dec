-- The names that most proofs here cite, passed on from one place. Declares nothing.
pub use Rattle.step_trace.proofs.BoundDecisions.{DeltaHolds-unrefuted, PhiHolds-unrefuted}
pub use Rattle.step_trace.proofs.BoundLaws.{GapRefutes-sound, IsNamedGap-refutes, IsNamedMiss-refutes, MissRefutes-sound}
pub use Rattle.step_trace.proofs.StepPositions.{Contains-from_takes, act_takes-from_Contains, step_at_within}
pub use Rattle.step_trace.proofs.TickOrder.{number_below, own_ticks_rise, ticks_rise}
pub use Rattle.step_trace.specs.Bounds.{DeltaHolds, IsDelivered, IsDelta, IsMessage, IsPhi, PhiHolds}
pub use Rattle.step_trace.specs.Configurations.{Setup}
pub use Rattle.step_trace.specs.Processors.{IsWithin, has_proc}
pub use Rattle.step_trace.specs.Steps.{act_ids}
pub use Rattle.step_trace.specs.Ticks.{IsTimed, IsTrace, tick_of}
pub use Rattle.step_trace.specs.Traces.{IsReceiveOf, IsSentTo, IsWellFormed, Recorded, TakesAt, step_at}
pub use Rattle.step_trace.specs.Witnesses.{IsGap, IsMiss, NamesGap, NamesMiss}
pub use Rattle.step_trace.specs.declared.rows.Gap.{Gap}
pub use Rattle.step_trace.specs.declared.rows.Miss.{Miss}
pub use Rattle.step_trace.specs.declared.rows.Row.{Row}
pub use Rattle.step_trace.specs.declared.steps.Act.{Act}
pub use Rattle.step_trace.specs.declared.steps.Act.TheVariants.{Receive, Send}
pub use Rattle.step_trace.specs.declared.steps.Step.{Step}
pub use Rattle.suffix_staircase.specs.Analysis.{AreIdleUpTo, AreLevels, AreLevelsFrom, IsLevelAt, KnowsGaps}
pub use Rattle.suffix_staircase.specs.Analysis.{KnowsMisses, KnowsMissesAfter, KnowsStepsAfter, KnowsTicksFrom}
pub use Rattle.suffix_staircase.specs.Analysis.{NamesAfter, with_gap, with_miss}
pub use Rattle.suffix_staircase.specs.Levels.{AreStarts, CanStandBefore, IsStaircase, IsStart, StandsBefore, begins, is_other, level_of, repeated, row_from, rows_after, rows_of, same_bounds, starts}
pub use Rattle.suffix_staircase.specs.NextSteps.{AreNextSteps, AreNextTicks, IsLatest, IsNextStep, IsNextTick}
pub use Rattle.suffix_staircase.specs.Receives.{IsDeliveredByNumber, IsFirstReceive, IsLastMissByNumber, IsLastReceive, IsMissByNumber, IsTaker, KnowsReceives, NotesReceive, last_missed}
pub use Rattle.suffix_staircase.specs.Stretches.{AreInOrder, AreStairs, AreStretches, height, levels_in, levels_of}
pub use Rattle.suffix_staircase.specs.declared.levels.Level.{Level}
pub use Rattle.suffix_staircase.specs.declared.receives.Receives.{Receives}
pub use Rattle.suffix_staircase.specs.declared.stretches.Stretch.{Stretch}
