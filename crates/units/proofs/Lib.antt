pub mod Rounding
pub mod Table
pub mod Lowest
pub mod Some
pub mod Last
pub mod Tests
pub mod Among
pub mod Below
