pub mod Item
pub mod Laws
pub mod Order
pub mod Queue
pub mod Runs
pub mod Sameness
pub mod Sorted
