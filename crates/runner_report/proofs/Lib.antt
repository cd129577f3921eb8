pub mod PrintedSchedules
pub mod ReportTexts
