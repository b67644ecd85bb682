pub mod Searches
pub mod Shortages
pub mod Parts
mod HeldExtremes
mod Examples
pub mod Rising
