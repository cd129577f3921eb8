pub mod Joins
pub mod Prefixes
pub mod Under
