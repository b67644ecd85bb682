pub mod Reference
pub mod Place
