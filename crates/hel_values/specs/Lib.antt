pub mod Limits
pub mod Sameness
pub mod Values
