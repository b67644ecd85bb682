pub mod Verdict
pub mod Causes
pub mod Means
pub mod Patterns
pub mod Examples
