pub mod Near
pub mod Fractions
pub mod Reported
pub mod Rising
pub mod Close
mod Examples
