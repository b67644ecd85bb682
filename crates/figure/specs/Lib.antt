pub mod Fractions
pub mod Figure
