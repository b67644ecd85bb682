pub mod Selections
pub mod Decisions
pub mod Results
