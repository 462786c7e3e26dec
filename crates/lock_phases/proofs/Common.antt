-- The names that most proofs here cite, passed on from one place. Declares nothing.
pub use Rattle.step_trace.proofs.ListMembers.{Contains-filter, Contains-from_filter, Contains-from_map, Contains-head}
pub use Rattle.step_trace.proofs.ListMembers.{Contains-map, Contains-nil, Contains-rest, list_any-at, list_any-found}
pub use Rattle.step_trace.proofs.ListMembers.{rising-first, rising-tail}
pub use Rattle.step_trace.specs.Configurations.{IsProc, IsSetup, Setup}
pub use Rattle.lock_phases.specs.Hearing.{IsAddressed, IsHeardListed, IsHeardProper, IsReleasedByTold, IsSaidBy, IsTold}
pub use Rattle.lock_phases.specs.Hearing.{IsToldToLock, Says, acknowledging, heard_from, listing, lists_with}
pub use Rattle.lock_phases.specs.Hearing.{with_proper}
pub use Rattle.lock_phases.specs.Locks.{heard_lock, is_acceptable, is_released, kept_locks, put_lock, releases}
pub use Rattle.lock_phases.specs.Messages.{Message, body_of, is_ack, listed_values, locked_value, sender_of, told_locks}
pub use Rattle.lock_phases.specs.NodeLaws.{AcknowledgingKeeps, IsAcknowledged, IsAcknowledgedByQuorum}
pub use Rattle.lock_phases.specs.NodeLaws.{IsDecidedByQuorum, IsLeastListed, IsListOf, IsLockedOnce, IsMadeByQuorum}
pub use Rattle.lock_phases.specs.NodeLaws.{IsProposal, IsRefusedByFew, IsUntold, ListingKeeps, LockingKeeps}
pub use Rattle.lock_phases.specs.NodeLaws.{LockingLocks, Obeys, ReleasingKeeps, TakesIn}
pub use Rattle.lock_phases.specs.Nodes.{IsRising, LockPair, State, phase_of_lock, value_of}
pub use Rattle.lock_phases.specs.Quorums.{acks, has_quorum, least, least_listed, lesser, lists}
pub use Rattle.lock_phases.specs.Rounds.{Acknowledging, Listing, Locking, Part, Releasing, owner, part_at, part_of, phase_of}
pub use Rattle.lock_phases.specs.Values.{insert_value, insert_values, take_in}
pub use Rattle.lock_phases.specs.declared.bodies.Body.{Body}
pub use Rattle.lock_phases.specs.declared.bodies.Kind.{Kind}
