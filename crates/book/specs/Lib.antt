pub mod ItemLists
pub mod Books
pub mod Lending
pub mod Progress
pub mod ErrorTexts
