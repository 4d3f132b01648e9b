pub mod Discharged
