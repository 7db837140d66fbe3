pub mod Admits
pub mod Rows
pub mod Signs
