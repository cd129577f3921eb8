pub mod Ways
pub mod Fates
pub mod Looks
pub mod Endings
pub mod Graph
pub mod Waiting
pub mod inner
