pub mod Standings
pub mod StandingLines
pub mod Followers
pub mod Runs
pub mod DecisionLines
pub mod Simulations
