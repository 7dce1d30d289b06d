pub mod Comparing
pub mod Enumerating
pub mod Marking
pub mod Permuting
pub mod Placing
pub mod Standing
pub mod Totalling
