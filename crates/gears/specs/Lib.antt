pub mod Acceleration
pub mod Rules
