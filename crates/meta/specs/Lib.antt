pub mod Layout
pub mod Test
pub mod Shape
pub mod Laws
