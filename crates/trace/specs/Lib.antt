pub mod Format
pub mod Said
pub mod Reads
pub mod Encoding
