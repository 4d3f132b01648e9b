pub mod Contents
pub mod Verdicts
pub mod Families
pub mod Rows
pub mod Lines
pub mod Laws
