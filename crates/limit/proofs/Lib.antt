pub mod Classes
pub mod Limits
pub mod Examples
