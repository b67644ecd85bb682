pub mod Cases
pub mod Refused
pub mod Exact
mod Examples
