pub mod Examinations
pub mod Layouts
pub mod Presence
mod Examples
