pub mod Validities
pub mod Counting
pub mod OwnBackgrounds
pub mod Seeking
pub mod Members
