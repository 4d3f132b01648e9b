pub mod Numbers
pub mod Pages
pub mod Judged
