pub mod Lying
pub mod Accepted
pub mod Chains
pub mod Judged
pub mod Exactly
pub mod Lowness
