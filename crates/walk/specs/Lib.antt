pub mod Spots
pub mod Marking
pub mod Walking
pub mod Checking
