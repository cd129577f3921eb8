pub mod Pushed
mod CarriedOut
mod HeldOn
mod LocalRunsTold
mod Taken
