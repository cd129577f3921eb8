mod PathMarks
mod WarningLists
