pub mod Answers
pub mod Shown
pub mod Statuses
pub mod Suites
