pub mod Reading
mod Searched
