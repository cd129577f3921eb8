pub mod LesserSchedules
pub mod SortedViews
pub mod SumsJoin
pub mod EndSearch
pub mod PartsJoin
