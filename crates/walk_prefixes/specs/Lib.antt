pub mod PrefixLists
pub mod inner
