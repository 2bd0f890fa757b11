pub mod Bodies
pub mod Bounds
pub mod Functions
pub mod Initials
pub mod OneBefore
