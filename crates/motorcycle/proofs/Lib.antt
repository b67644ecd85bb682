pub mod Causes
pub mod Means
mod Examples
