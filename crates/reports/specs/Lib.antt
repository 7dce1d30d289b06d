pub mod ProfileNames
pub mod Renamed
