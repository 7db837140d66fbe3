pub mod Number
pub mod Text
pub mod Said
pub mod Laws
pub mod Next
