pub use Rattle.walk_summary.specs.Summaries
pub mod Items
pub mod Walks
pub mod FullSums
pub mod Children
pub mod Once
