pub mod Record
pub mod Premise
pub mod Promise
pub mod Runs
