pub mod Tests
pub mod Dockets
pub mod Runs
pub mod Exact
pub mod Assured
pub mod Examples
