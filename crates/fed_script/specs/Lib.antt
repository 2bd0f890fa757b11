pub mod Depth
pub mod Laws
pub mod Room
pub mod Round
pub mod Rounds
pub mod Script
pub mod View
pub mod Written
