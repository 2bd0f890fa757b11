pub mod Chain
pub mod Chance
pub mod Filter
pub mod Limits
