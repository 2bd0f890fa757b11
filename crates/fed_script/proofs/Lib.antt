pub mod Counts
pub mod Inboxes
pub mod Lists
pub mod Parts
pub mod Passing
pub mod Search
pub mod Turns
