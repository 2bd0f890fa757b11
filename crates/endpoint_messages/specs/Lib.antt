pub mod Inbox
pub mod Mail
