pub mod Teams
pub mod Lent
