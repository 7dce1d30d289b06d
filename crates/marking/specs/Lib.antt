pub mod Marking
pub mod Passing
