pub mod Order
pub mod Separators
pub mod Balance
