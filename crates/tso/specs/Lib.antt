pub mod Tso
pub mod TsoLaws
