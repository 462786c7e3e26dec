pub mod Paces
pub mod Simulations
