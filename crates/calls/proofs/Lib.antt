pub mod Tests
pub mod Dockets
pub mod Later
pub mod Exact
pub mod Assured
pub mod Examples
