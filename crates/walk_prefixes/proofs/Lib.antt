pub mod CommonSteps
pub mod WayBytes
pub mod PackedPrefixes
pub mod GoingBack
pub mod ListFields
pub mod Marking
pub mod Later
