pub mod Weights
pub mod PartPower
