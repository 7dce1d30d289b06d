pub mod Listing
pub mod Searching
pub mod Sieves
