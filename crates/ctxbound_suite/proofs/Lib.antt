pub mod Shows
pub mod Answers
pub mod OneOrTwo
