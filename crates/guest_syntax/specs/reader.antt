-- The reader as functions on lists, which the proofs put between the code and the grammar. No
-- public contract cites it, so nobody has to believe it.
pub mod BlankBytes
pub mod TokenViews
pub mod Scanner
pub mod Gives
pub mod Reads
pub mod SingleTokens
pub mod Expressions
pub mod Items
pub mod Statements
pub mod Trees
