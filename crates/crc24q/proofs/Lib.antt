pub mod Edges
pub mod Register
pub mod Remainder
pub mod Sums
pub mod Word
