-- What the proofs put between the code and the definitions. Only contracts of private functions cite
-- it.
pub mod Frames
pub mod Marking
