pub mod Pages
pub mod Steps
pub mod Past
pub mod Devices
pub mod Copies
