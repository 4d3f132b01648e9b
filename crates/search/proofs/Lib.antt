pub mod InLeaves
pub mod Parts
pub mod Steps
pub mod Loading
