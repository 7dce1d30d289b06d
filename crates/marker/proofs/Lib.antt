pub mod Agreeing
pub mod Handing
pub mod Keeping
pub mod Passed
pub mod Performing
pub mod Reaching
