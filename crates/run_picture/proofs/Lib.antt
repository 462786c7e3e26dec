pub mod LaneCounts
