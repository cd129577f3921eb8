pub mod Spelling
pub mod Run
pub mod Trace
pub mod ErrorTexts
pub mod inner
