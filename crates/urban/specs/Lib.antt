pub mod Urban
