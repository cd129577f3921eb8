pub mod Agreement
pub mod inner
pub mod Levels
