pub mod Lists
pub mod Leads
pub mod Accepts
pub mod Stops
pub mod Exactly
