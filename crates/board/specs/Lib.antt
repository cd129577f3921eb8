pub mod Board
pub mod Claims
pub mod inner
