pub mod Powers
pub mod References
mod Examples
