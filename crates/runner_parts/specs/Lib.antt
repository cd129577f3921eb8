pub mod PartText
pub mod Lines
pub mod ErrorTexts
pub mod inner
