pub mod Laws
pub mod Outcome
pub mod Paths
pub mod Reach
pub mod Rounds
pub mod Steps
pub mod Walks
