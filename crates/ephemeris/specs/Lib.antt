pub mod Exactly
pub mod Meaning
pub mod Pairing
pub mod Scales
