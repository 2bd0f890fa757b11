pub mod Refusal
pub mod Plan
pub mod Machine
pub mod Laws
pub mod First
pub mod Moves
pub mod Example
