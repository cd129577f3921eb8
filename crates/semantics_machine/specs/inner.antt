-- What the proofs put between the code and the definitions. Only contracts of private functions
-- cite it, so nobody has to believe it.
pub mod LocalRuns
pub mod Parts
pub mod Steps
pub mod Opening
pub mod Runs
pub mod Alike
