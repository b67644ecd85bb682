pub mod Windows
pub mod Extremes
pub mod Shortages
