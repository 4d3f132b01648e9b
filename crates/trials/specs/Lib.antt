pub mod Trials
