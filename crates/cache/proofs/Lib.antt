pub mod Copies
pub mod Steps
pub mod Flushes
pub mod Places
pub mod Takes
pub mod Fetched
pub mod Synced
