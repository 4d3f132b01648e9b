pub mod Fuses
pub mod Kept
pub mod Accounts
pub mod Disks
pub mod Images
pub mod ImageFaults
pub mod ImageCalls
pub mod Parts
