pub mod Answers
pub mod Cycles
pub mod Distances
pub mod Tables
