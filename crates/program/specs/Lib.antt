pub mod Program
pub mod Streams
