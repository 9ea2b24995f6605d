pub mod Alternation
pub mod Fitting
pub mod IdleWords
