pub mod Rounding
pub mod Bytes
pub mod Tests
