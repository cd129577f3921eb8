pub mod Parts
pub mod Found
pub mod ErrorTexts
pub mod inner
