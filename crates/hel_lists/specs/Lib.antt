pub mod Lends
pub mod Members
