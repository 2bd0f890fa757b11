pub mod Statuses
pub mod Lines
pub mod Printing
pub mod Command
pub mod Answers
