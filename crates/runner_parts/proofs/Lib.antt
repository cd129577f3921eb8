pub mod PartTexts
pub mod Digests
pub mod ReadLists
pub mod PartLines
