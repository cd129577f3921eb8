pub mod Answer
pub mod Explained
pub mod Serve
pub mod Status
pub mod inner
