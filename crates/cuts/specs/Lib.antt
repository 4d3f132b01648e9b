pub mod Keys
pub mod Nodes
pub mod Cuts
pub mod Sizes
pub mod Laws
