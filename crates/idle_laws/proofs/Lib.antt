pub mod Common
mod AddedEvents
mod EventSteps
mod ReceivedMessages
mod EventBounds
mod FilledBounds
mod SeenTraces
mod LeastBounds
mod SortedPlaces
mod MadeTraces
mod SilentTicks
mod FullTraces
