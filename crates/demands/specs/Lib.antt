pub mod Family
pub mod Refusals
