pub mod Faults
pub mod Medium
pub mod Calls
pub mod History
pub mod Looking
