pub mod Reports
pub mod Unbounded
pub mod Promises
pub mod Texts
pub mod ErrorTexts
pub mod ReportText
