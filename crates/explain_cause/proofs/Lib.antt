mod Back
mod Following
mod Marks
mod Places
mod Rows
mod Runs
mod Touched
mod Valid
