pub mod Cuts
pub mod Hops
pub mod Tree
