mod Digits
mod Comments
mod Cut
mod Parting
