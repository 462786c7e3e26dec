-- The names that most proofs here cite, passed on from one place. Declares nothing.
pub use Rattle.step_trace.proofs.ListMembers.{Contains-from_map, Contains-head, Contains-nil, Contains-rest, list_any-at, list_any-found, rising-tail}
pub use Rattle.step_trace.specs.Configurations.{IsProc, IsSetup, Setup}
pub use Rattle.step_trace.specs.Processors.{IsWithin, has_proc}
pub use Rattle.lock_phases.proofs.AcknowledgingLaws.{acknowledging-acknowledged, acknowledging-keeps, acknowledging-quorum}
pub use Rattle.lock_phases.proofs.Counting.{count_by-le}
pub use Rattle.lock_phases.proofs.ListingLaws.{listing-keeps, listing-quorum, listing-refused}
pub use Rattle.lock_phases.proofs.LockingLaws.{locking-keeps, locking-locks, locking-told}
pub use Rattle.lock_phases.proofs.Membership.{Contains-cons_cases, Contains-filter_map, Contains-from_filter_map, count_by-found}
pub use Rattle.lock_phases.proofs.OriginLaws.{decision-origin, decision-stays, proper-origin, proper-taken_in, proposal-origin}
pub use Rattle.lock_phases.proofs.QuorumLaws.{Contains-from_lists, lists-from_Contains}
pub use Rattle.lock_phases.proofs.ReleasingLaws.{releasing-keeps}
pub use Rattle.lock_phases.proofs.RoundLaws.{part_of-cases}
pub use Rattle.lock_phases.proofs.SendingLaws.{acknowledgement-sent, list-has, list-sent, lock-sent, locks-sent}
pub use Rattle.lock_phases.proofs.SentBodies.{ack-said_by, listed-said_by, lock-said_by, out-said_by, told-said_by}
pub use Rattle.lock_phases.specs.Hearing.{IsHeardListed, IsHeardProper, IsHeardToSay, IsSaidBy, IsTold, IsToldToLock, acknowledging, listing, with_proper}
pub use Rattle.lock_phases.specs.Messages.{Message, body_of, sender_of}
pub use Rattle.lock_phases.specs.NodeLaws.{AcknowledgingKeeps, IsAcknowledged, ListingKeeps, LockingKeeps, LockingLocks, ReleasingKeeps, TakesIn}
pub use Rattle.lock_phases.specs.Nodes.{LockPair, State, opening, phase_of_lock, value_of}
pub use Rattle.lock_phases.specs.Rounds.{owner, part_of, phase_of}
pub use Rattle.lock_phases.specs.declared.bodies.Body.{Body}
pub use Rattle.round_model.specs.Agreement.{Agree, AgreeAll, AreInitialValues, DecidesInitialValue, decisions}
pub use Rattle.round_model.specs.BoundedDecision.{HaveDecided, HearsAllOf, HoldOneValue, IsInTouch, LocksAreProper, deciding_round, settling_phase}
pub use Rattle.round_model.specs.HeardSets.{HeardTable, IsHeardTable, heard_set, numbered, rows_of, table_of}
pub use Rattle.round_model.specs.NodeLists.{node_of, nodes_after_round}
pub use Rattle.round_model.specs.RoundStates.{Table, initial_value, messages_heard, processors, states_after}
