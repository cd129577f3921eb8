pub mod Uses
pub mod Paths
pub mod Warnings
pub mod inner
