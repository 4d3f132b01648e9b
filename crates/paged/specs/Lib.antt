pub mod Paged
pub mod Walk
pub mod Sound
pub mod Laws
