pub mod Counting
pub mod Extending
pub mod Orders
