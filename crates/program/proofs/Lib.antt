pub mod Answers
pub mod Bytes
pub mod Retries
pub mod Room
