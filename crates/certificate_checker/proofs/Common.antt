-- The names that most proofs here cite, passed on from one place. Declares nothing.
pub use Rattle.step_trace.proofs.BoundDecisions.{DeltaHolds-unrefuted, PhiHolds-unrefuted, delivered_or_not, step_or_not, steps_within_or_not}
pub use Rattle.step_trace.proofs.BoundLaws.{DeltaHolds-later, Gap-same, GapRefutes-sound, IsLeastBound-unique, IsMessage-receiver, Miss-same, MissRefutes-sound, PhiHolds-later}
pub use Rattle.step_trace.proofs.FrontCriterion.{IsDelta-on_front, IsOnFront-from_change, IsPhi-on_front, on_front-changes}
pub use Rattle.step_trace.proofs.ListMembers.{Contains-from_map, Contains-map, Contains-nil, Contains-slice_get}
pub use Rattle.step_trace.proofs.StepPositions.{Contains-from_takes, act_takes-from_Contains, slice_get-last, slice_get-push_cases, slice_get-push_old, step_at_within}
pub use Rattle.step_trace.proofs.TickOrder.{one_in_tick, own_ticks_rise, ticks_rise}
pub use Rattle.step_trace.specs.Bounds.{DeltaHolds, IsDelta, IsLeastBound, IsMessage, IsPhi, PhiHolds}
pub use Rattle.step_trace.specs.Configurations.{Setup}
pub use Rattle.step_trace.specs.Fronts.{IsOnFront, IsReport, Triple, triple_of}
pub use Rattle.step_trace.specs.Processors.{IsWithin, has_proc}
pub use Rattle.step_trace.specs.Steps.{act_ids}
pub use Rattle.step_trace.specs.Ticks.{IsTimed, IsTrace, StepsIn, tick_of}
pub use Rattle.step_trace.specs.Traces.{IsReceiveOf, IsStepOf, IsWellFormed, Recorded, TakesAt, step_at}
pub use Rattle.step_trace.specs.Witnesses.{GapRefutes, IsGap, IsMiss, MissRefutes, NamesGap, NamesMiss}
pub use Rattle.step_trace.specs.declared.rows.Gap.{Gap}
pub use Rattle.step_trace.specs.declared.rows.Miss.{Miss}
pub use Rattle.step_trace.specs.declared.rows.Row.{Row}
pub use Rattle.step_trace.specs.declared.steps.Act.{Act}
pub use Rattle.step_trace.specs.declared.steps.Act.TheVariants.{Receive, Send}
pub use Rattle.step_trace.specs.declared.steps.Step.{Step}
pub use Rattle.step_trace.specs.ReportRows.{row_at}
pub use Rattle.certificate_checker.specs.Certificates.{Certifies, IsLongestGap, IsLongestMiss, NamesNothingBesideOne, Serves, ShowsDelta, ShowsPhi, after_stretch}
pub use Rattle.certificate_checker.specs.Closings.{AreClosings, HasSilent, IsCarried, IsRaised, IsReached, KnowsEnds, PutsEnds}
pub use Rattle.certificate_checker.specs.LongestSilences.{IsLongestSilence, IsTooShort}
pub use Rattle.certificate_checker.specs.LongestWitnesses.{AreBefore, AreFrom, HasNoGapAt, HasNoMiss, HasNoMissAfter}
pub use Rattle.certificate_checker.specs.LongestWitnesses.{HasSpan, IsLastMiss, IsLongestGapAt, IsLongestMissAfter}
pub use Rattle.certificate_checker.specs.LongestWitnesses.{KnowsMissesAfter, longer_miss, span_of}
pub use Rattle.certificate_checker.specs.Receives.{IsLastBefore, IsLastWaited, KnowsReceives, WaitsAt, last_waited}
pub use Rattle.certificate_checker.specs.Searches.{AreInOrder, IsFirst, IsFirstReason, IsFirstWith}
pub use Rattle.certificate_checker.specs.Silences.{AreSilences, IsNextStep, IsSilence, KnowsSilence, KnowsSilences}
pub use Rattle.certificate_checker.specs.Verdicts.{HasRow, HasTwoRows, IsNotAfter, IsVerdict, Stands, place_of, row_of}
pub use Rattle.certificate_checker.specs.declared.receives.Receives.{Receives}
pub use Rattle.certificate_checker.specs.declared.receives.TheConstants.{UNTAKEN}
pub use Rattle.certificate_checker.specs.declared.silences.Silence.{Silence}
pub use Rattle.certificate_checker.specs.declared.verdicts.Reason.{Reason}
pub use Rattle.certificate_checker.specs.declared.verdicts.Reason.TheVariants.{BadGap, BadMiss, BeyondEnd, DeltaFails, FirstNotOne, NoRows, NotNonIncreasing, NotRising, PhiFails, SameAsBefore}
pub use Rattle.certificate_checker.specs.declared.verdicts.Verdict.{Verdict}
pub use Rattle.certificate_checker.specs.declared.verdicts.Verdict.TheVariants.{No, Yes}
