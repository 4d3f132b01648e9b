pub mod Slots
pub mod Ends
pub mod Cells
pub mod Steps
pub mod Metas
pub mod Rooms
pub mod Trees
