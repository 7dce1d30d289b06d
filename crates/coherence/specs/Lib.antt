pub mod Coherence
pub mod Naming
pub mod Seen
pub mod Sights
pub mod Visibility
