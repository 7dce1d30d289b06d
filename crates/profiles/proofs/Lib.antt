pub mod Lasts
mod Alone
mod Patterns
mod Scanning
pub mod Summaries
