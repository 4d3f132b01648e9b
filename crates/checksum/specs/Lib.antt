pub mod Crc
pub mod Bytes
pub mod Sealed
pub mod Kinds
