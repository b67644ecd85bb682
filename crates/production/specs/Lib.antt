pub mod Annex
pub mod Stages
pub mod Sequences
pub mod Numbers
pub mod Examples
