pub mod TestMass
pub mod Causes
pub mod Exact
pub mod Numbers
pub mod Examples
