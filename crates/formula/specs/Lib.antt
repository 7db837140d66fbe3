pub mod Cuts
pub mod Sections
pub mod Ends
pub mod Told
pub mod Prefix
pub mod Matrix
pub mod View
pub mod Formula
