pub mod Quick
pub mod Computed
pub mod Starred
pub mod Louder
