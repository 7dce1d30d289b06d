pub mod Deciding
pub mod Looking
pub mod Refusing
mod Equality
pub mod Fitting
mod Checking
mod Standing
mod Undoing
