pub mod Limits
pub mod Examples
