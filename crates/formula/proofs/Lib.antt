pub mod Parts
mod Looked
mod SectionLemmas
mod Rows
pub mod Blocks
mod Kept
pub mod WellFormed
