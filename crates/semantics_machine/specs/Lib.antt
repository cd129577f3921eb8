pub mod Touches
pub mod Refinement
pub mod inner
