pub mod Accelerations
mod AccelerationExamples
pub mod Places
pub mod Nearest
pub mod Choices
mod RulesExamples
