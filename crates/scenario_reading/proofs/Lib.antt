pub mod Orders
pub mod ForEach
pub mod Steps
pub mod Members
pub mod Names
pub mod Scripts
pub mod Settings
