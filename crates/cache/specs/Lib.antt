pub mod Held
pub mod Cached
pub mod Calls
pub mod Inner
