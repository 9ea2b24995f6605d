pub mod Outcomes
pub mod Recovered
pub mod Taken
