pub mod ByPrefix
pub mod Found
pub mod Sums
pub mod Told
