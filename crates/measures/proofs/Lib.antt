pub mod Counting
pub mod Order
pub mod Outcomes
pub mod Reaching
pub mod Rounds
pub mod Rows
pub mod Tables
