pub mod Summaries
pub mod inner
