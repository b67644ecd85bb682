pub mod Sequences
pub mod Numbers
mod Examples
