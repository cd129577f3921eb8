pub mod Objects
pub mod Settings
pub mod Steps
pub mod Blocked
pub mod Holders
pub mod Explains
pub mod inner
