pub mod Federate
pub mod Filters
pub mod Interfaces
pub mod Names
pub mod Places
pub mod Scripts
pub mod Values
pub mod Words
