pub mod Reading
pub mod Level
