-- What the proofs put between the code and the definitions. No public contract cites it, so nobody
-- has to believe it.
pub mod Searches
