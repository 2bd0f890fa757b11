pub mod Refusals
pub mod Order
pub mod Following
pub mod Verdict
pub mod Fitting
pub mod Reading
