pub mod Check
pub mod Text
