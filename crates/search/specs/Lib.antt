pub mod Finding
pub mod Following
