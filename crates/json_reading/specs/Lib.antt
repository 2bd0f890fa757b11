pub mod Keys
pub mod Leaves
pub mod Reading
