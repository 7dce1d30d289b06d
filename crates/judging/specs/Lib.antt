pub mod Finding
pub mod Judging
pub mod Laying
