pub mod Closing
pub mod Ancestry
pub mod Numbers
pub mod Rows
pub mod Tables
