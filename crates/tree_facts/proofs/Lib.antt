pub mod Climb
pub mod Cuts
pub mod Paths
