pub mod Turn
pub mod Parts
pub mod Over
pub mod Words
pub mod Seals
