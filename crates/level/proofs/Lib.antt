pub mod Range
pub mod Readings
pub mod Scaled
pub mod Rising
pub mod Corrections
pub mod Sides
mod Examples
