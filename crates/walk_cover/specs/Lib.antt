pub mod CoverBy
pub mod Covers
pub mod Prefixes
pub mod Under
pub mod inner
