pub mod Moves
pub mod Reading
pub mod View
pub mod Kept
pub mod Grammar
pub mod Written
pub mod Refused
