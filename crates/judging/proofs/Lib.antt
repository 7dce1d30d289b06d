pub mod Chains
pub mod Found
pub mod Showing
pub mod Writing
