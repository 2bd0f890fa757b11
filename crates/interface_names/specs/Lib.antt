pub mod Federate
pub mod Filter
pub mod GlobalName
pub mod Laws
pub mod Limits
pub mod Names
pub mod Registry
