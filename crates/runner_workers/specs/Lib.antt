pub mod Teams
pub mod inner
