pub mod Checks
pub mod Sides
pub mod Stored
pub mod Models
